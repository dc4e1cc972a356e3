use Rattle.std.proofs.Common.{◌≤◌, ◌∙◌, arith, ap, length, option_map, sym}
use Rattle.std.specs.BTreeSet.{contains}
use Rattle.std.specs.Ordering.{nat_cmp}
use Rattle.tk_screen.proofs.Looking.{all_tested, tested_more}
use Rattle.tk_screen.proofs.again.add_changed.Goals as goal

pub loop-index-preserved : goal.loop-index-preserved
loop-index-preserved c =
    let at = sym c.get_index.ensures.entry ∙ ap (option_map (λ p. (p.0.now, p.1.now))) c.unwrap.ensures in
    let known = c.loop-index.invariant in
    let added = c.in_ok-add_if_changed.ensures in
    record {
      more = λ number fresh. known.more number (added.more number fresh);
      tested = tested_more c.args.scopes.now c.args.reads.now.entries (contains nat_cmp c.loop-index.touched) (contains nat_cmp c.add_if_changed.new.touched) c.loop-index.index _ _ at added.more added.tested known.tested;
    }

pub returns : goal.returns
returns c =
    let known = c.loop-index.invariant in
    let all : length c.args.reads.now.entries ≤ c.loop-index.index = omega (arith, c.loop-index-test.false, c.len-index-end.ensures.len) in
    λ number fresh. (known.more number fresh, all_tested c.args.scopes.now c.args.reads.now.entries (contains nat_cmp c.loop-index.touched) c.loop-index.index all known.tested number fresh)
