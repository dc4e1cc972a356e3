-- What a kept layout is made from, and what is laid out of it.
use Rattle.std.proofs.Common.{◌≡◌, ℕ, false, true, List, length, set, Option, None, Some, sym, ap, ◌∙◌, subst}
use Rattle.std.specs.Prelude.{IfSome, map, nat_eq}
use Rattle.std.specs.Map.{lookup}
use Rattle.tk_base.specs.declared.rect.Rect.{Rect}
use Rattle.tk_packer.specs.Changes.{laid_out_shapes}
use Rattle.tk_packer.specs.Standing.{Inputs, IsIndex, IsPackedAs, IsStanding, SameInputs, Standing, inputs_of, packed_of, places_by, standing_of, with_shape}
use Rattle.tk_packer.specs.declared.packed.Packed.{Packed}
use Rattle.tk_packer.specs.declared.shape.Shape.{Shape}
use Rattle.tk_packer.specs.declared.standing.KeptWindows.{KeptWindows}
use Rattle.tk_packer.proofs.Adding.{index_apart, index_stays, numbers_set, packs_are, shape_absent, with_shape_is}
use Rattle.tk_packer.proofs.Changing.{shape_changed}
use Rattle.tk_packer.proofs.Gets.{none_some}
use Rattle.tk_packer.proofs.Stands.{places_right}

-- what is said of a value, if there is one
pub told_of : {X : Type 0} (o : Option X) (x : X) (P : X → Type 0) → o ≡ Some x → IfSome o P → P x
told_of {X = X} o x P is told = subst (λ (r : Option X). IfSome r P) is told

pub same_inputs : (one other : Inputs) → one.size ≡ other.size → one.shapes ≡ other.shapes → one.packs ≡ other.packs → one ≡ other
same_inputs one other size shapes packs =
    ap (λ (x : ℕ × ℕ). record one { size = x }) size ∙ ap (λ (x : List Shape). record other { shapes = x; packs = one.packs }) shapes
    ∙ ap (λ (x : List (List Packed)). record other { packs = x }) packs

-- those of windows of which other parts changed
pub inputs_stay : (old new : KeptWindows) → SameInputs (standing_of old) (standing_of new) → inputs_of new ≡ inputs_of old
inputs_stay old new same = same_inputs (inputs_of new) (inputs_of old) same.size same.shapes (ap (map packed_of) same.slaves)

pub made_from : (w : KeptWindows) (size : ℕ × ℕ) (shapes : List Shape) (packed : ℕ → List Packed) → IsStanding (standing_of w) → w.size ≡ size → w.shapes.items ≡ shapes
    → IsPackedAs packed shapes w.slaves.items → inputs_of w ≡ record { size = size; shapes = shapes; packs = map (λ shape. packed shape.number) shapes }
made_from w size shapes packed ok its_size its_shapes packs =
    same_inputs (inputs_of w) (record { size = size; shapes = shapes; packs = map (λ shape. packed shape.number) shapes }) its_size its_shapes
    (packs_are packed shapes w.slaves.items (ok.lengths.slaves ∙ ap length its_shapes) packs)

-- ── another window in the place of the one of its number ──

pub put_there : (entries : List (ℕ × ℕ)) (shapes : List Shape) (place : ℕ) (shape : Shape) → IsIndex entries shapes → lookup (nat_eq shape.number) entries ≡ Some place
    → set shapes place shape ≡ with_shape shape shapes
put_there entries shapes place shape index is =
    let found = index.found shape.number place is in
    with_shape_is shapes (index_apart entries shapes index) place found.0 shape found.1.0 (sym found.1.1)

pub put_nowhere : (entries : List (ℕ × ℕ)) (shapes : List Shape) (shape : Shape) → IsIndex entries shapes → lookup (nat_eq shape.number) entries ≡ None → with_shape shape shapes ≡ shapes
put_nowhere entries shapes shape index none =
    shape_absent shapes shape (λ i other at_i same. none_some i (sym none ∙ ap (λ n. lookup (nat_eq n) entries) (sym same) ∙ index.known i other at_i))

pub put_stands : (s : Standing) → IsStanding s → (entries : List (ℕ × ℕ)) (place : ℕ) (shape : Shape) → IsIndex entries s.shapes → lookup (nat_eq shape.number) entries ≡ Some place
    → s.resize place ≡ true → s.rearrange place ≡ true → s.moved place ≡ true → IsStanding (record s { shapes = set s.shapes place shape })
put_stands s ok entries place shape index is in_resize in_rearrange in_moved =
    let found = index.found shape.number place is in
    shape_changed s ok place found.0 shape found.1.0 (sym found.1.1) s.resize s.rearrange s.moved (λ q at_q. at_q) (λ q at_q. at_q) (λ q at_q. at_q) ok.within in_resize in_rearrange in_moved

pub put_indexed : (entries : List (ℕ × ℕ)) (shapes : List Shape) (place : ℕ) (shape : Shape) → IsIndex entries shapes → lookup (nat_eq shape.number) entries ≡ Some place
    → IsIndex entries (set shapes place shape)
put_indexed entries shapes place shape index is =
    let found = index.found shape.number place is in
    index_stays entries shapes (set shapes place shape) (numbers_set shapes place found.0 shape found.1.0 (sym found.1.1)) index

-- ── what is laid out ──

-- another step of places changes no window, and none's slaves
pub same_placed : (old between new : Standing) → SameInputs old between → new ≡ record between { places = new.places; rearrange = new.rearrange; moved = new.moved } → SameInputs old new
same_placed old between new same parts = record {
  size = ap (λ (x : Standing). x.size) parts ∙ same.size;
  shapes = ap (λ (x : Standing). x.shapes) parts ∙ same.shapes;
  slaves = ap (λ (x : Standing). x.slaves) parts ∙ same.slaves;
}

-- where nothing is left to be looked at, windows lie where the layout says
pub laid_places : (old new : KeptWindows) → SameInputs (standing_of old) (standing_of new) → IsStanding (standing_of new) → ((q : ℕ) → (standing_of new).resize q ≡ false)
    → ((q : ℕ) → (standing_of new).rearrange q ≡ false) → new.places.items ≡ places_by (inputs_of old)
laid_places old new same ok sized arranged =
    sym (places_right (standing_of new) ok (λ i. ok.sized i (sized i)) (λ i. ok.arranged i (arranged i))) ∙ ap places_by (inputs_stay old new same)

pub laid_inputs : (old new : KeptWindows) (places : List (Option Rect)) → new.size ≡ old.size → new.slaves.items ≡ old.slaves.items → new.shapes.items ≡ laid_out_shapes old.shapes.items places
    → inputs_of new ≡ record (inputs_of old) { shapes = laid_out_shapes old.shapes.items places }
laid_inputs old new places size slaves shapes =
    same_inputs (inputs_of new) (record (inputs_of old) { shapes = laid_out_shapes old.shapes.items places }) size shapes (ap (map packed_of) slaves)
