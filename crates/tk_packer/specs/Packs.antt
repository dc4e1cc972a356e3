-- Meaning. The packed windows: those of one application in one list, master by master in the rising order of the masters' numbers, the slaves of each
-- in their order.
use Rattle.std.specs.Prelude.{ℕ, Bool, ◌==◌, nat_lt, not, if◌then◌else◌, List, [], ◌∷◌, ◌++◌, map, filter, find, insert, Option, option_map}
use Rattle.std.specs.List.{list_any}
use Rattle.tk_base.specs.declared.win.Win.{Win}
use Rattle.tk_packer.specs.declared.packed.Packed.{Packed}
use Rattle.tk_packer.specs.declared.request.Request.{Request}

-- ---- lists in the rising order of numbers that their elements have

-- what stands before, and what behind, all that has a number
abbrev pub lesser : {X : Type 0} → (X → ℕ) → ℕ → List X → List X
lesser number_of n xs = filter (λ x. nat_lt (number_of x) n) xs

abbrev pub greater : {X : Type 0} → (X → ℕ) → ℕ → List X → List X
greater number_of n xs = filter (λ x. nat_lt n (number_of x)) xs

-- others in the place of those that have a number
abbrev pub replaced : {X : Type 0} → (X → ℕ) → ℕ → List X → List X → List X
replaced number_of n new xs = lesser number_of n xs ++ (new ++ greater number_of n xs)

-- ---- one application

abbrev pub master_of : Packed → ℕ
master_of packed = packed.master

-- those packed in a master, in order
abbrev pub slaves_of : ℕ → List Packed → List Packed
slaves_of master packs = filter (λ packed. packed.master == master) packs

-- the windows that these are
abbrev pub wins_of : ℕ → List Packed → List Win
wins_of owner packs = map (λ packed. record { owner = owner; number = packed.number }) packs

-- all but one window
abbrev pub without : ℕ → List Packed → List Packed
without number packs = filter (λ packed. not (packed.number == number)) packs

-- what a window was packed with
abbrev pub request_in : ℕ → List Packed → Option Request
request_in number packs = option_map (λ packed. packed.request) (find (λ packed. packed.number == number) packs)

-- one more, at a place among the slaves of its master
abbrev pub with_slave : ℕ → Packed → List Packed → List Packed
with_slave place new packs = replaced master_of new.master (insert (slaves_of new.master packs) place new) packs

-- a window packed at a place, after it was taken out of where it was
abbrev pub packed_at : ℕ → Packed → List Packed → List Packed
packed_at place new packs = with_slave place new (without new.number packs)

-- what one application has packed, and the numbers of the windows whose content doesn't decide what they ask for
pub record Packing : Type 0 where
  pub packs : List Packed
  pub rigid : List ℕ

-- nothing is packed, and every window propagates
abbrev pub no_packs : Packing
no_packs = record { packs = []; rigid = [] }

abbrev pub with_packed : ℕ → Packed → Packing → Packing
with_packed place new own = record own { packs = packed_at place new own.packs }

abbrev pub without_packed : ℕ → Packing → Packing
without_packed number own = record own { packs = without number own.packs }

-- all numbers but one
abbrev pub without_number : ℕ → List ℕ → List ℕ
without_number number numbers = filter (λ other. not (other == number)) numbers

-- whether what is packed in a window decides what it asks for (pack(n), "GEOMETRY PROPAGATION")
abbrev pub propagates_in : ℕ → Packing → Bool
propagates_in number own = not (list_any (λ other. other == number) own.rigid)

-- the windows that don't propagate, when one does or doesn't
abbrev pub rigid_after : ℕ → Bool → List ℕ → List ℕ
rigid_after number propagates numbers = if propagates then without_number number numbers else replaced (λ other. other) number (number ∷ []) numbers

abbrev pub with_propagation : ℕ → Bool → Packing → Packing
with_propagation number propagates own = record own { rigid = rigid_after number propagates own.rigid }

-- a window that is gone is packed nowhere, and nothing is said of it
abbrev pub without_window : ℕ → Packing → Packing
without_window number own = record { packs = without number own.packs; rigid = without_number number own.rigid }
