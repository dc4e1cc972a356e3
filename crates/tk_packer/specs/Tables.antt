-- Steps. Packed windows as tables keep them: each by its number, and the slaves of each master in a list of their own.
use Rattle.std.specs.Prelude.{◌≡◌, ℕ, ◌<◌, ◌==◌, nat_eq, if◌then◌else◌, List, [], ◌∷◌, find, insert, Option, None, Some}
use Rattle.std.specs.Map.{lookup}
use Rattle.std.specs.Option.{option_map_or, IsSomeAnd}
use Rattle.tk_packer.specs.declared.packed.Packed.{Packed}
use Rattle.tk_packer.specs.Packs.{slaves_of, without, master_of, replaced}
use Rattle.tk_base.specs.Line.{Line}

-- the lists of slaves, by the numbers of their masters
abbrev pub Lists : Type 0
Lists = List (ℕ × Line Packed)

-- a master's slaves
abbrev pub slaves_at : ℕ → Lists → List Packed
slaves_at master lists = option_map_or (λ slaves. slaves.items) (lookup (nat_eq master) lists) []

-- all that is packed, master by master in the rising order of their numbers
abbrev pub gathered : Lists → List Packed
gathered [] = []
gathered (entry ∷ lists) = replaced master_of entry.0 (slaves_of entry.0 entry.1.items) (gathered lists)

-- numbers in rising order, each once
abbrev pub rising : List ℕ → List ℕ
rising [] = []
rising (n ∷ ns) = replaced (λ m. m) n (n ∷ []) (rising ns)

-- a master has a list with room for one more
abbrev pub HasRoom : ℕ → Lists → Type 0
HasRoom master lists = IsSomeAnd (lookup (nat_eq master) lists) (λ slaves. 0 < slaves.room)

-- a master's slaves, once the window is taken out of the list of the master that it had
abbrev pub taken_out : Option Packed → ℕ → ℕ → List Packed → List Packed
taken_out None number master slaves = slaves
taken_out (Some packed) number master slaves = if packed.master == master then without number slaves else slaves

-- a master's slaves, with one more at a place if it is the master's
abbrev pub put_in : ℕ → Packed → ℕ → List Packed → List Packed
put_in place packed master slaves = if packed.master == master then insert slaves place packed else slaves

-- a window, if it is packed in this master
abbrev pub if_in : ℕ → Option Packed → Option Packed
if_in master None = None
if_in master (Some packed) = if packed.master == master then Some packed else None

-- no number stands twice
abbrev pub AreApart : List Packed → Type 0
AreApart [] = Unit {0}
AreApart (packed ∷ packs) = (find (λ other. other.number == packed.number) packs ≡ None) × AreApart packs

-- each is a slave of the master in whose list it stands, and stands there, once, exactly if it is known by its number, with that master
pub record AreTied (windows : ℕ → Option Packed) (slaves : ℕ → List Packed) : Type 0 where
  pub own : (master : ℕ) → slaves_of master (slaves master) ≡ slaves master
  pub known : (number master : ℕ) → find (λ packed. packed.number == number) (slaves master) ≡ if_in master (windows number)
  pub once : (master : ℕ) → AreApart (slaves master)
