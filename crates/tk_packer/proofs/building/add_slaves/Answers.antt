use Rattle.std.proofs.Common.{◌≡◌, [], ◌∷◌, List, Some, length, set, arith, refl, ap, ◌∙◌, sym, subst}
use Rattle.std.specs.Prelude.{slice_get}
use Rattle.std.proofs.lemmas.Bool.{eqb-true}
use Rattle.tk_packer.specs.declared.packed.Packed.{Packed}
use Rattle.tk_packer.specs.declared.standing.Slave.{Slave}
use Rattle.tk_packer.specs.Standing.{IsIndex, IsStanding, Standing, packed_of, standing_of}
use Rattle.tk_packer.proofs.Adding.{packed_more, set_same, slave_more}
use Rattle.tk_packer.proofs.Gets.{get_within}
use Rattle.tk_packer.proofs.building.add_slaves.Goals as goal

none_packed : (packed : List Packed) → length packed ≡ 0 → packed_of [] ≡ packed
none_packed [] is = refl
none_packed (p ∷ packed) is = absurd (omega (arith, is))

pub returns-then-is_empty-clause-slaves : goal.returns-then-is_empty-clause-slaves
returns-then-is_empty-clause-slaves c = λ fits. (
  [],
  (
    sym (set_same c.args.windows.now.slaves.items c.args.master [] c.requires.none),
    none_packed c.args.packed.now (eqb-true (length c.args.packed.now) 0 (sym c.is_empty.ensures ∙ c.if-is_empty.true)),
  ),
)

pub loop-slave-init : goal.loop-slave-init
loop-slave-init c =
    let s : Standing = standing_of c.mark.new.windows in
    let at_list : slice_get s.slaves c.args.master ≡ Some [] = ap (λ (x : Standing). slice_get x.slaves c.args.master) c.in_ok-mark.ensures.parts ∙ c.requires.none in
    let same : set s.slaves c.args.master c.in_ok-list.list.items ≡ s.slaves =
    ap (set s.slaves c.args.master) c.in_ok-list.ensures.items ∙ set_same s.slaves c.args.master [] at_list in
    record {
      standing = subst (λ (slaves : List (List Slave)). IsStanding (record s { slaves = slaves })) (sym same) c.in_ok-mark.ensures.standing;
      parts = refl;
      packed = ap packed_of c.in_ok-list.ensures.items;
    }

pub loop-slave-preserved : goal.loop-slave-preserved
loop-slave-preserved c =
    let s : Standing = standing_of c.loop-slave.windows in
    let known = c.loop-slave.invariant in
    let marked = c.in_ok-mark.ensures in
    let parts = known.parts ∙ ap (λ (x : Standing). record x { slots = s.slots }) marked.parts in
    let at_list : slice_get s.slaves c.args.master ≡ Some [] = ap (λ (x : Standing). slice_get x.slaves c.args.master) parts ∙ c.requires.none in
    let index : IsIndex c.args.index.now.entries s.shapes = subst (IsIndex c.args.index.now.entries) (sym (ap (λ (x : Standing). x.shapes) parts)) c.requires.index in
    let count : c.len-place.result ≡ length c.loop-slave.list.items = omega (arith, c.len-place.ensures, c.loop-slave.list.ok.0) in
    record {
      standing =
          slave_more s c.args.index.now.entries c.args.master c.in-Some.position c.len-place.result c.loop-slave.list.items c.push.new.self.items c.set_slot.new.slots.items _
          c.in_ok-push.ensures.items c.set_slot.ensures known.standing index (ap (λ (x : Standing). x.resize c.args.master) known.parts ∙ marked.resize)
          (ap (λ (x : Standing). x.rearrange c.args.master) known.parts ∙ marked.rearrange) (get_within s.slaves c.args.master [] at_list) c.in-Some.ensures count;
      parts = ap (λ (x : Standing). record x { slots = c.set_slot.new.slots.items }) known.parts;
      packed =
          packed_more c.loop-slave.list.items c.push.new.self.items _ c.args.packed.now c.loop-slave.slave-index _ c.in_ok-push.ensures.items c.loop-slave-test.true known.packed;
    }
