use Rattle.std.proofs.Common.{◌≡◌, ◌+◌, List, length, sym, subst, arith}
use Rattle.std.specs.BTreeSet.{contains}
use Rattle.std.specs.Ordering.{nat_cmp}
use Rattle.tk_packer.specs.declared.shape.Shape.{Shape}
use Rattle.tk_packer.specs.Groups.{slaves_by}
use Rattle.tk_packer.specs.Standing.{ArePackedBut}
use Rattle.tk_packer.proofs.Emptying.{emptied_here, packed_here}
use Rattle.tk_packer.proofs.Sets.{inserted}
use Rattle.tk_packer.proofs.repacking.empty_if_other.Goals as goal

pub returns-then-has_packed-clause-packs : goal.returns-then-has_packed-clause-packs
returns-then-has_packed-clause-packs c =
    packed_here (contains nat_cmp c.args.emptied.now) (slaves_by c.args.own.now) c.args.place c.args.windows.now.shapes.items c.args.windows.now.slaves.items c.requires.packs
    c.slaves_here-packed.result.now (c.has_packed.ensures c.if-has_packed.true) c.slaves_here-packed.ensures

pub returns-clause-packs : goal.returns-clause-packs
returns-clause-packs c =
    let packed = slaves_by c.args.own.now in
    let waits = contains nat_cmp c.insert.new.self in
    let emptied = c.in_ok-empty.ensures in
    let long : length c.args.windows.now.slaves.items ≡ length c.args.windows.now.shapes.items = c.requires.standing.lengths.slaves in
    subst (λ (shapes : List Shape). ArePackedBut waits packed (c.args.place + 1) shapes c.empty.new.windows.slaves.items) (sym emptied.shapes)
    (emptied_here (contains nat_cmp c.args.emptied.now) packed c.args.place c.args.windows.now.shapes.items c.args.windows.now.slaves.items c.requires.packs waits
    c.empty.new.windows.slaves.items (omega (arith, c.requires.within, long)) emptied.slaves (inserted c.args.emptied.now c.insert.new.self c.args.place c.in_ok-insert.ensures.updates))
