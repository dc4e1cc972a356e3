use Rattle.std.proofs.Common.{[], List, length, refl, ◌∙◌, sym, subst, arith}
use Rattle.std.specs.BTreeSet.{contains}
use Rattle.std.specs.Ordering.{nat_cmp}
use Rattle.tk_packer.specs.declared.shape.Shape.{Shape}
use Rattle.tk_packer.specs.Groups.{slaves_by}
use Rattle.tk_packer.specs.Standing.{ArePackedBut, IsIndex}
use Rattle.tk_packer.proofs.Emptying.{all_packed, filled_here}
use Rattle.tk_packer.proofs.Gets.{get_within}
use Rattle.tk_packer.proofs.Sets.{none_popped, removed}
use Rattle.tk_packer.proofs.repacking.fill_all.Goals as goal

pub add_slaves-requires-clause-index : goal.add_slaves-requires-clause-index
add_slaves-requires-clause-index c = subst (IsIndex c.args.index.now.entries) (sym c.loop-place.invariant.shapes) c.requires.index

pub add_slaves-requires-clause-none : goal.add_slaves-requires-clause-none
add_slaves-requires-clause-none c = c.loop-place.invariant.packs.empty c.in-Some.place c.in-Some.ensures.member

pub loop-place-preserved : goal.loop-place-preserved
loop-place-preserved c =
    let at = c.loop-place in
    let known = at.invariant in
    let place = c.in-Some.place in
    let added = c.in_ok-add_slaves.ensures in
    let list = added.slaves c.if-not-branch.false in
    let packed = slaves_by c.args.own.now in
    let waits = contains nat_cmp c.pop_first.new.self in
    let within = get_within at.windows.slaves.items place [] (known.packs.empty place c.in-Some.ensures.member) in
    record {
      standing = added.standing c.if-not-branch.false;
      size = added.size ∙ known.size;
      shapes = added.shapes ∙ known.shapes;
      packs = subst (λ (shapes : List Shape). ArePackedBut waits packed (length shapes) shapes c.add_slaves.new.windows.slaves.items) (sym added.shapes)
          (filled_here (contains nat_cmp at.emptied) waits packed (length at.windows.shapes.items) place at.windows.shapes.items at.windows.slaves.items known.packs
          (removed at.emptied c.pop_first.new.self place c.in-Some.ensures.updates) list.0 c.slaves_here-slaves.result.now c.add_slaves.new.windows.slaves.items within list.1.0 list.1.1
          c.slaves_here-slaves.ensures);
    }

pub returns-clause-packs : goal.returns-clause-packs
returns-clause-packs c = λ fits.
    (let at = c.loop-place in
    all_packed (contains nat_cmp at.emptied) (slaves_by c.args.own.now) (length at.windows.shapes.items) at.windows.shapes.items at.windows.slaves.items
    (none_popped at.emptied at.emptied c.in_default.ensures.variant.1 refl) (omega arith) at.invariant.packs)
