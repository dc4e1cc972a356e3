use Rattle.std.proofs.Common.{◌≡◌, length, refl, ap, ◌∙◌, arith}
use Rattle.std.specs.BTreeSet.{contains}
use Rattle.std.specs.Ordering.{nat_cmp}
use Rattle.tk_packer.specs.Groups.{slaves_by}
use Rattle.tk_packer.proofs.Emptying.{none_waits}
use Rattle.tk_packer.proofs.Sets.{has}
use Rattle.tk_packer.proofs.repacking.empty_others.Goals as goal

pub loop-place-init : goal.loop-place-init
loop-place-init c = record {
  standing = c.requires;
  size = refl;
  shapes = refl;
  packs =
      none_waits (contains nat_cmp c.new-emptied.result) (slaves_by c.args.own.now) c.args.windows.now.shapes.items c.args.windows.now.slaves.items
      (λ q. ap (has q) c.new-emptied.ensures.empty);
}

pub empty_if_other-requires-clause-within : goal.empty_if_other-requires-clause-within
empty_if_other-requires-clause-within c =
    let long : length c.loop-place.windows.shapes.items ≡ length c.args.windows.now.shapes.items = ap length c.loop-place.invariant.shapes in
    omega (arith, c.loop-place-test.true, c.len-place-end.ensures, c.args.windows.now.shapes.ok.0, long)

pub loop-place-preserved : goal.loop-place-preserved
loop-place-preserved c =
    let known = c.loop-place.invariant in
    let emptied = c.in_ok-empty_if_other.ensures in
    record { standing = emptied.standing; size = emptied.size ∙ known.size; shapes = emptied.shapes ∙ known.shapes; packs = emptied.packs }

pub returns-clause-packs : goal.returns-clause-packs
returns-clause-packs c =
    let at = c.loop-place in
    let long : length at.windows.shapes.items ≡ length c.args.windows.now.shapes.items = ap length at.invariant.shapes in
    record {
      empty = at.invariant.packs.empty;
      others = λ q shape list lt isnt at_q at_list.
          at.invariant.packs.others q shape list (omega (arith, lt, long, c.loop-place-test.false, c.len-place-end.ensures, c.args.windows.now.shapes.ok.0)) isnt at_q at_list;
    }
