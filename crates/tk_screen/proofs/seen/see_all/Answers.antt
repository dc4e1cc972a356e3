use Rattle.tk_screen.specs.Shared.{own_of}
use Rattle.tk_screen.proofs.Looking.{all_kept, all_seen, reads_more, seen_more}
use Rattle.tk_screen.proofs.seen.see_all.Goals as goal

pub loop-number-preserved : goal.loop-number-preserved
loop-number-preserved c =
    let own = own_of c.args.slot c.args.screen.now in
    let at = c.loop-number in
    let cut = c.in-Some.ensures.cases.0 in
    let seen = c.in_ok-see_one.ensures in
    record {
      shapes = seen_more own c.args.scopes.now c.args.numbers.now at.rest.now c.in-Some.others.now c.in-Some.number.now at.shapes.items c.see_one.new.shapes.items cut seen.shape at.invariant.shapes;
      reads = reads_more own c.args.scopes.now c.args.numbers.now at.rest.now c.in-Some.others.now c.in-Some.number.now at.reads.entries c.see_one.new.reads.entries cut seen.read at.invariant.reads;
    }

pub returns-clause-shapes : goal.returns-clause-shapes
returns-clause-shapes c =
    let at = c.loop-number in
    all_seen (own_of c.args.slot c.args.screen.now) c.args.scopes.now c.args.numbers.now at.rest.now at.shapes.items c.in_default.ensures.cases at.invariant.shapes

pub returns-clause-reads : goal.returns-clause-reads
returns-clause-reads c =
    let at = c.loop-number in
    all_kept (own_of c.args.slot c.args.screen.now) c.args.scopes.now c.args.numbers.now at.rest.now at.reads.entries c.in_default.ensures.cases at.invariant.reads
