-- Requested sizes, from the back of the list.
use Rattle.std.proofs.Common.{◌≡◌, ℕ, List, [], ◌∷◌, ◌++◌, length, cond, Some, refl, sym, ap, ◌∙◌, arith}
use Rattle.std.specs.Prelude.{nat_eq}
use Rattle.std.specs.Map.{lookup}
use Rattle.tk_packer.specs.Asked.{Sizes, with_size, sized, requests_of, size_asked, with_asked, sizes_asked}
use Rattle.tk_packer.specs.declared.shape.Shape.{Shape}
use Rattle.tk_packer.proofs.SameInputs.{Same, itself, joined, one_more, inserted}
use Rattle.tk_packer.specs.declared.packed.Packed.{Packed}

-- the sizes of some windows before others, whose sizes are known
unfoldable pub sizes_onto : (ℕ → List Packed) → List Shape → Sizes → Sizes
sizes_onto slaves [] sizes = sizes
sizes_onto slaves (shape ∷ shapes) sizes = with_asked slaves shape (sizes_onto slaves shapes sizes)

pub sizes_all : (slaves : ℕ → List Packed) (shapes : List Shape) → sizes_onto slaves shapes [] ≡ sizes_asked slaves shapes
unfolding sizes_onto sizes_asked
sizes_all slaves [] = refl
sizes_all slaves (shape ∷ shapes) = ap (with_asked slaves shape) (sizes_all slaves shapes)

pub sizes_last : (slaves : ℕ → List Packed) (shapes : List Shape) (shape : Shape) (sizes : Sizes) → sizes_onto slaves (shapes ++ shape ∷ []) sizes ≡ sizes_onto slaves shapes (with_asked slaves shape sizes)
unfolding sizes_onto
sizes_last slaves [] shape sizes = refl
sizes_last slaves (first ∷ shapes) shape sizes = ap (with_asked slaves first) (sizes_last slaves shapes shape sizes)

-- ── sizes that answer alike ──
pub requests_same : (one other : Sizes) → Same one other → (slaves : List Packed) → requests_of one slaves ≡ requests_of other slaves
requests_same one other same [] = refl
requests_same one other same (packed ∷ slaves) =
    ap (λ size. with_size size packed.request ∷ requests_of one slaves) (same.found packed.number) ∙ ap (λ rs. sized other packed ∷ rs) (requests_same one other same slaves)

pub asked_same : (slaves : ℕ → List Packed) (shape : Shape) (one other : Sizes) → Same one other → Same (with_asked slaves shape one) (with_asked slaves shape other)
unfolding with_asked
asked_same slaves shape one other same =
    one_more shape.number _ _ one other (ap (size_asked shape) (requests_same one other same (slaves shape.number))) same

pub onto_same : (slaves : ℕ → List Packed) (shapes : List Shape) (one other : Sizes) → Same one other → Same (sizes_onto slaves shapes one) (sizes_onto slaves shapes other)
unfolding sizes_onto
onto_same slaves [] one other same = same
onto_same slaves (shape ∷ shapes) one other same = asked_same slaves shape (sizes_onto slaves shapes one) (sizes_onto slaves shapes other) (onto_same slaves shapes one other same)

-- ── the steps of the walk from the back ──
pub sizes_begin : (slaves : ℕ → List Packed) (shapes : List Shape) (none : Sizes) → none ≡ [] → Same (sizes_onto slaves shapes none) (sizes_asked slaves shapes)
sizes_begin slaves shapes none is = record { found = λ n. ap (λ ss. lookup (nat_eq n) (sizes_onto slaves shapes ss)) is ∙ ap (lookup (nat_eq n)) (sizes_all slaves shapes) }

pub sizes_more : (slaves : ℕ → List Packed) (before rest : List Shape) (shape : Shape) (old new all : Sizes) → rest ≡ before ++ shape ∷ []
    → Same new (with_asked slaves shape old) → Same (sizes_onto slaves rest old) all → Same (sizes_onto slaves before new) all
sizes_more slaves before rest shape old new all is same so_far =
    joined _ _ _ (onto_same slaves before new (with_asked slaves shape old) same)
    (joined _ _ _ (record { found = λ n. ap (lookup (nat_eq n)) (sym (sizes_last slaves before shape old) ∙ ap (λ ss. sizes_onto slaves ss old) (sym is)) }) so_far)

pub asked_new : (slaves : ℕ → List Packed) (shape : Shape) (old new : Sizes) (size : ℕ × ℕ) → size ≡ size_asked shape (requests_of old (slaves shape.number))
    → ((n : ℕ) → lookup (nat_eq n) new ≡ cond (nat_eq shape.number n) (Some size) (lookup (nat_eq n) old)) → Same new (with_asked slaves shape old)
unfolding with_asked
asked_new slaves shape old new size is found =
    joined _ _ _ (inserted shape.number size old new found) (one_more shape.number size (size_asked shape (requests_of old (slaves shape.number))) old old is (itself old))

pub sizes_end : (slaves : ℕ → List Packed) (rest : List Shape) (sizes all : Sizes) → length rest ≡ 0 → Same (sizes_onto slaves rest sizes) all → Same sizes all
unfolding sizes_onto
sizes_end slaves [] sizes all none so_far = so_far
sizes_end slaves (shape ∷ rest) sizes all none so_far = absurd (omega arith)
