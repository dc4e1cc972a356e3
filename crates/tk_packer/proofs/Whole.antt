-- The layout by a function to the slaves of each master, and by what is packed.
use Rattle.std.proofs.Common.{◌≡◌, ℕ, List, Option, ap, ◌∙◌}
use Rattle.std.specs.Prelude.{nat_eq}
use Rattle.std.specs.Map.{lookup}
use Rattle.tk_base.specs.declared.rect.Rect.{Rect}
use Rattle.tk_packer.specs.Asked.{Sizes, sizes_asked}
use Rattle.tk_packer.specs.Layout.{placed, first_place, layout}
use Rattle.tk_packer.specs.declared.shape.Shape.{Shape}
use Rattle.tk_packer.proofs.Giving.{placed_sizes}
use Rattle.tk_packer.specs.declared.packed.Packed.{Packed}
use Rattle.tk_packer.specs.Packs.{slaves_of}

-- functions that give each master the same slaves are the same
same_slaves : (one other : ℕ → List Packed) → ((master : ℕ) → one master ≡ other master) → one ≡ other
same_slaves one other same = λ i master. same master i

pub sizes_by : (slaves : ℕ → List Packed) (packs : List Packed) (shapes : List Shape) (sizes : Sizes) → ((master : ℕ) → slaves master ≡ slaves_of master packs)
    → ((n : ℕ) → lookup (nat_eq n) sizes ≡ lookup (nat_eq n) (sizes_asked slaves shapes)) → (n : ℕ) → lookup (nat_eq n) sizes ≡ lookup (nat_eq n) (sizes_asked (λ master. slaves_of master packs) shapes)
sizes_by slaves packs shapes sizes same found = λ n.
    found n ∙ ap (λ (s : ℕ → List Packed). lookup (nat_eq n) (sizes_asked s shapes)) (same_slaves slaves (λ master. slaves_of master packs) same)

pub layout_is : (size : ℕ × ℕ) (slaves : ℕ → List Packed) (packs : List Packed) (shapes : List Shape) (sizes : Sizes) (places : List (Option Rect)) → ((master : ℕ) → slaves master ≡ slaves_of master packs)
    → ((n : ℕ) → lookup (nat_eq n) sizes ≡ lookup (nat_eq n) (sizes_asked slaves shapes))
    → places ≡ placed slaves sizes (first_place size shapes) shapes → places ≡ layout size packs shapes
layout_is size slaves packs shapes sizes places same found is =
    is ∙ placed_sizes slaves sizes (sizes_asked slaves shapes) shapes (first_place size shapes) (record { found = found })
    ∙ ap (λ (s : ℕ → List Packed). placed s (sizes_asked s shapes) (first_place size shapes) shapes) (same_slaves slaves (λ master. slaves_of master packs) same)
