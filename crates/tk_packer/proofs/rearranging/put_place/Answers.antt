use Rattle.std.proofs.Common.{◌≡◌, ◌⊎◌, inl, inr, ◌<◌, ℕ, true, length, List, Option, None, Some, Bor, arith, refl, ap, ◌∙◌, sym, subst}
use Rattle.std.proofs.lemmas.Option.{slice_get_read}
use Rattle.std.specs.Prelude.{slice_get}
use Rattle.std.specs.BTreeSet.{contains}
use Rattle.std.specs.Option.{option_copied}
use Rattle.std.specs.Ordering.{nat_cmp}
use Rattle.std.specs.Slice.{IsItemAt}
use Rattle.tk_base.specs.declared.rect.Rect.{Rect}
use Rattle.tk_packer.specs.Standing.{IsStanding, Standing, standing_of}
use Rattle.tk_packer.proofs.Changing.{place_changed}
use Rattle.tk_packer.proofs.Gets.{get_within}
use Rattle.tk_packer.proofs.Sets.{inserted}
use Rattle.tk_packer.proofs.rearranging.put_place.Goals as goal

-- what a look at a slice gave
read_at : {X : Type 0} (xs : List X) (i : ℕ) (r : Option (Bor X)) (o : Option X) (x : X) → IsItemAt xs i r → o ≡ option_copied r → o ≡ Some x → slice_get xs i ≡ Some x
read_at xs i None o x item copied is = absurd (cc)
read_at xs i (Some b) o x item copied is = slice_get_read xs (length xs) i b.now refl item.3.0 item.1 ∙ sym copied ∙ is

within : (s : Standing) → IsStanding s → (i : ℕ) → i < length s.shapes → (q : ℕ) → (q ≡ i) ⊎ (s.rearrange q ≡ true) → q < length s.shapes
within s ok i lt q (inl same) = omega (arith, lt, same)
within s ok i lt q (inr was) = ok.within q was

pub returns-clause-standing : goal.returns-clause-standing
returns-clause-standing c =
    let s : Standing = standing_of c.args.windows.now in
    let ok : IsStanding s = c.requires.standing in
    let at_old : slice_get s.places c.args.position ≡ Some c.in-Some.old =
    ap (λ (places : List (Option Rect)). slice_get places c.args.position) (sym c.deref.ensures.value) ∙ read_at c.deref.result.now c.args.position c.get.result c.copied.result c.in-Some.old c.get.ensures.lookup c.copied.ensures c.in-Some.is in
    let lt : c.args.position < length s.shapes = (let here = get_within s.places c.args.position c.in-Some.old at_old in let long = ok.lengths.places in omega (arith, here, long)) in
    let one = inserted c.args.windows.now.moved c.insert.new.self c.args.position c.in_ok-insert.ensures.updates in
    let room = c.in_ok-mark_room.ensures in
    subst
    (λ (places : List (Option Rect)). IsStanding (record s { places = places; rearrange = contains nat_cmp c.mark_room.new.rearrange; moved = contains nat_cmp c.insert.new.self }))
    (sym c.set_place.ensures)
    (place_changed s ok c.args.position c.requires.slave.0 c.args.place c.in-Some.old (contains nat_cmp c.mark_room.new.rearrange) (contains nat_cmp c.insert.new.self) c.requires.slave.1.0 at_old
    (room.more c.requires.slave.0.master c.requires.slave.1.1) room.more one.more (λ q is. within s ok c.args.position lt q (room.only q is)) room.room one.here)
