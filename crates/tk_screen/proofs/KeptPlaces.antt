-- A kept layout lays windows out as the layout from nothing does.
use Rattle.std.proofs.Common.{◌≡◌, ℕ, zero, suc, Bool, true, false, List, [], ◌∷◌, Option, Some, refl, sym, ap, ◌∙◌, subst}
use Rattle.std.specs.Prelude.{◌==◌, IfSome, if◌then◌else◌, map, nat_eq, slice_get}
use Rattle.std.specs.BTreeSet.{contains}
use Rattle.std.specs.Map.{lookup}
use Rattle.std.specs.Ordering.{nat_cmp}
use Rattle.std.proofs.lemmas.Bool.{eq-eqb, eqb-true}
use Rattle.tcl_vars.specs.Store.{Store}
use Rattle.tk_base.specs.declared.rect.Rect.{Rect}
use Rattle.tk_packer.specs.Changes.{changes_of, laid_out_shapes}
use Rattle.tk_packer.specs.declared.changes.PlaceChange.{PlaceChange}
use Rattle.tk_packer.specs.declared.packed.Packed.{Packed}
use Rattle.tk_packer.specs.declared.shape.Shape.{Shape}
use Rattle.tk_packer.specs.Layout.{layout}
use Rattle.tk_packer.specs.Packs.{slaves_of}
use Rattle.tk_packer.specs.Standing.{Inputs, packed_in, places_by}
use Rattle.tk_packer.proofs.Gets.{none_some}
use Rattle.tk_packer.proofs.Inputs.{told_of}
use Rattle.tk_packer.proofs.Shown.{layouts_agree}
use Rattle.tk_tree.proofs.Lists.{some_same}
use Rattle.tk_tree.specs.Own.{IsSound}
use Rattle.tk_screen.specs.Layout.{changes_due, laid_out_windowing, size_of}
use Rattle.tk_screen.specs.Own.{Windowing}
use Rattle.tk_screen.specs.declared.marks.Mark.{Mark}
use Rattle.tk_screen.specs.Reads.{IsKept, IsOneOf, Reads, StillHolds}
use Rattle.tk_screen.specs.Seen.{AreAlike, IsMarked, IsSeen, IsSettled, Rests}
use Rattle.tk_screen.specs.Shapes.{pre_order, shapes}
use Rattle.tk_screen.proofs.Alike.{first_seen, laid_alike, laid_numbers, untouched}
use Rattle.tk_screen.proofs.Looking.{seen_now}
use Rattle.tk_screen.proofs.Twice.{laid_seen, laid_twice}

-- ── what is packed ──

packed_by : (f : ℕ → List Packed) (xs : List Shape) (i : ℕ) (shape : Shape) → slice_get xs i ≡ Some shape → packed_in xs (map (λ s. f s.number) xs) shape.number ≡ f shape.number
packed_by f [] i shape at = absurd (cc)
packed_by f (x ∷ xs) zero shape at =
    let is : x ≡ shape = some_same x shape at in
    let equal : (x.number == shape.number) ≡ true = eq-eqb x.number shape.number (ap (λ (s : Shape). s.number) is) in
    ap (λ (b : Bool). if b then f x.number else packed_in xs (map (λ s. f s.number) xs) shape.number) equal ∙ ap (λ (s : Shape). f s.number) is
packed_by f (x ∷ xs) (suc i) shape at = by (x.number == shape.number) refl (packed_by f xs i shape at)
  where
    by : (b : Bool) → (x.number == shape.number) ≡ b → packed_in xs (map (λ s. f s.number) xs) shape.number ≡ f shape.number → (if b then f x.number else packed_in xs (map (λ s. f s.number) xs) shape.number) ≡ f shape.number
    by true same rest = ap f (eqb-true x.number shape.number same)
    by false differ rest = rest

-- a layout that was just made
seen_new : (own : Windowing) (store : Store) (touched : ℕ → Bool) (reads : Reads) (kept : Inputs) (size : ℕ × ℕ) (xs : List Shape)
    → kept ≡ record { size = size; shapes = xs; packs = map (λ s. slaves_of s.number own.packs.packs) xs } → size ≡ size_of own → xs ≡ shapes own store
    → ((n : ℕ) → IsOneOf n (pre_order own.tree) → IsKept own store reads n) → IsSeen own own.packs.packs store touched reads kept
unfolding shapes
seen_new own store touched reads kept size xs is its_size same all = record {
  size = ap (λ (i : Inputs). i.size) is ∙ its_size;
  packs = ap (λ (i : Inputs). i.packs) is ∙ sym (ap (λ (i : Inputs). map (λ s. slaves_of s.number own.packs.packs) i.shapes) is);
  alike = subst (λ (ss : List Shape). AreAlike touched (IsKept own store reads) ss (shapes own store)) (sym (ap (λ (i : Inputs). i.shapes) is ∙ same))
      (first_seen own store touched reads (pre_order own.tree) all);
}

pub seen_first : (own : Windowing) (store : Store) (touched : ℕ → Bool) (reads : Reads) (made : Option Inputs) (kept : Inputs) (size : ℕ × ℕ) (xs : List Shape) → made ≡ Some kept
    → IfSome made (λ kept. kept ≡ record { size = size; shapes = xs; packs = map (λ s. slaves_of s.number own.packs.packs) xs }) → size ≡ size_of own → xs ≡ shapes own store
    → ((n : ℕ) → IsOneOf n (pre_order own.tree) → IsKept own store reads n) → IsSeen own own.packs.packs store touched reads kept
seen_first own store touched reads made kept size xs is told its_size same all =
    seen_new own store touched reads kept size xs
    (told_of made kept (λ (kept : Inputs). kept ≡ record { size = size; shapes = xs; packs = map (λ s. slaves_of s.number own.packs.packs) xs }) is told) its_size same all

-- ── what is laid out ──

module _ (own : Windowing) (store : Store) (touched : ℕ → Bool) (reads : Reads) (kept : Inputs) (seen : IsSeen own own.packs.packs store touched reads kept) (none : (n : ℕ) → touched n ≡ false) where
  abbrev places : List (Option Rect)
  places = layout (size_of own) own.packs.packs (shapes own store)

  all_seen : kept.shapes ≡ shapes own store
  all_seen = untouched touched (IsKept own store reads) none kept.shapes (shapes own store) seen.alike

  inputs : kept ≡ record { size = size_of own; shapes = shapes own store; packs = map (λ s. slaves_of s.number own.packs.packs) (shapes own store) }
  inputs = λ i. record { size = seen.size i; shapes = all_seen i; packs = (seen.packs ∙ ap (map (λ s. slaves_of s.number own.packs.packs)) all_seen) i }

  same_places : places_by kept ≡ places
  same_places =
      ap places_by inputs
      ∙ layouts_agree (packed_in (shapes own store) (map (λ s. slaves_of s.number own.packs.packs) (shapes own store))) (λ m. slaves_of m own.packs.packs) (size_of own) (shapes own store)
      (packed_by (λ m. slaves_of m own.packs.packs) (shapes own store))

  pub same_changes : (changes : List PlaceChange) → changes ≡ changes_of kept.shapes (places_by kept) → changes ≡ changes_due own store
  unfolding changes_due
  same_changes changes is = is ∙ ap (λ (ss : List Shape). changes_of ss (places_by kept)) all_seen ∙ ap (changes_of (shapes own store)) same_places

  -- the windows that are kept once they were laid out
  laid_kept : (new : Inputs) → new ≡ record kept { shapes = laid_out_shapes kept.shapes (places_by kept) } → new.shapes ≡ laid_out_shapes (shapes own store) places
  laid_kept new is = ap (λ (i : Inputs). i.shapes) is ∙ ap (λ (ss : List Shape). laid_out_shapes ss (places_by kept)) all_seen ∙ ap (laid_out_shapes (shapes own store)) same_places

  alike_now : AreAlike touched (IsKept own store reads) (shapes own store) (shapes own store)
  alike_now = subst (λ (ss : List Shape). AreAlike touched (IsKept own store reads) ss (shapes own store)) all_seen seen.alike

  pub seen_laid : IsSound own.tree → (new : Inputs) → new ≡ record kept { shapes = laid_out_shapes kept.shapes (places_by kept) } → IsSeen (laid_out_windowing own store) own.packs.packs store touched reads new
  unfolding laid_out_windowing
  seen_laid sound new is = record {
    size = ap (λ (i : Inputs). i.size) is ∙ seen.size;
    packs =
        ap (λ (i : Inputs). i.packs) is ∙ seen.packs ∙ sym (laid_numbers (λ m. slaves_of m own.packs.packs) kept.shapes (places_by kept))
        ∙ sym (ap (λ (i : Inputs). map (λ s. slaves_of s.number own.packs.packs) i.shapes) is);
    alike = subst (λ (ss : List Shape). AreAlike touched (IsKept own store reads) ss (shapes (laid_out_windowing own store) store)) (sym (laid_kept new is))
        (subst (λ (ss : List Shape). AreAlike touched (IsKept own store reads) (laid_out_shapes (shapes own store) places) ss) (sym (laid_seen own store sound))
        (laid_alike touched (IsKept own store reads) (shapes own store) places alike_now));
  }

-- and changes nothing more
pub settled_laid : (own : Windowing) (store : Store) (touched : ℕ → Bool) (reads : Reads) (kept : Inputs) (seen : IsSeen own own.packs.packs store touched reads kept) → ((n : ℕ) → touched n ≡ false)
    → IsSound own.tree → (new : Inputs) → new ≡ record kept { shapes = laid_out_shapes kept.shapes (places_by kept) } → IsSettled new
unfolding laid_out_windowing
settled_laid own store touched reads kept seen none sound new is =
    same_changes (laid_out_windowing own store) store touched reads new (seen_laid own store touched reads kept seen none sound new is) none (changes_of new.shapes (places_by new)) refl
    ∙ laid_twice own store sound

-- an application that was laid out with the windows packed that are
pub packed_now : (own : Windowing) (store : Store) (touched : ℕ → Bool) (reads : Reads) (kept : Inputs) → IsSeen (laid_out_windowing own store) own.packs.packs store touched reads kept → IsSettled kept
    → (packed : List Packed) × ((false ≡ false → packed ≡ (laid_out_windowing own store).packs.packs) × IsSeen (laid_out_windowing own store) packed store touched reads kept × IsSettled kept)
unfolding laid_out_windowing
packed_now own store touched reads kept seen settled = (own.packs.packs, ((λ same. refl), seen, settled))

-- an application whose mark has nothing to look at is laid out
pub nothing_due : (own : Windowing) (store : Store) (mark : Mark) → IsMarked mark own → Rests mark → changes_due own store ≡ []
nothing_due own store mark marked rests =
    let touched = contains nat_cmp mark.touched in
    let seen : IsSeen own own.packs.packs marked.0 touched mark.reads.entries mark.layout =
    subst (λ (packed : List Packed). IsSeen own packed marked.0 touched mark.reads.entries mark.layout) (marked.1.1.0 rests.repacked) marked.1.1.1 in
    let now = seen_now own own.packs.packs marked.0 store touched touched mark.reads.entries (λ n fresh. (fresh, none_read n mark.reads.entries rests.reads)) mark.layout seen in
    sym (same_changes own store touched mark.reads.entries mark.layout now rests.touched (changes_of mark.layout.shapes (places_by mark.layout)) refl) ∙ marked.1.1.2
  where
    none_read : (n : ℕ) (reads : Reads) → reads ≡ [] → StillHolds store reads n
    none_read n reads none read found = absurd (none_some read (ap (lookup (nat_eq n)) (sym none) ∙ found))
