-- Steps. A list of two numbers at each place, each place with a stamp, and the stamps of each number by hashing.
use Rattle.std.specs.Prelude.{◌≡◌, ◌<◌, ℕ, zero, suc, Bool, ◌==◌, nat_eq, if◌then◌else◌, List, [], ◌∷◌, map, filter, not}
use Rattle.std.specs.Option.{option_map_or}
use Rattle.std.specs.HashMap.{get}
use Rattle.std.specs.HashMap.{HashMap}
use Rattle.std.specs.Prelude.{Vec}
use Rattle.tk_patterns.specs.declared.filed.Filed.{Filed}
use Rattle.tk_patterns.specs.declared.filed.Numbers.{Numbers}

abbrev pub numbers_of : List Filed → List Numbers
numbers_of list = map (λ filed. filed.numbers) list

-- the stamps of the numbers that are sought, in order
abbrev pub stamps_of : (Numbers → Bool) → List Filed → List ℕ
stamps_of sought [] = []
stamps_of sought (filed ∷ list) = if sought filed.numbers then filed.stamp ∷ stamps_of sought list else stamps_of sought list

-- those of one class, and those of one whole sequence
abbrev pub has_class : ℕ → Numbers → Bool
has_class number numbers = numbers.class == number

abbrev pub has_whole : ℕ → Numbers → Bool
has_whole number numbers = numbers.whole == number

-- the stamp at a place
abbrev pub HasStampAt : ℕ → ℕ → List Filed → Type 0
HasStampAt place stamp [] = ⊥
HasStampAt zero stamp (filed ∷ list) = filed.stamp ≡ stamp
HasStampAt (suc place) stamp (filed ∷ list) = HasStampAt place stamp list

-- each stamp is above this one, or below it
abbrev pub AllAbove : ℕ → List Filed → Type 0
AllAbove stamp [] = Unit {0}
AllAbove stamp (filed ∷ list) = (stamp < filed.stamp) × AllAbove stamp list

abbrev pub AllBelow : ℕ → List Filed → Type 0
AllBelow stamp [] = Unit {0}
AllBelow stamp (filed ∷ list) = (filed.stamp < stamp) × AllBelow stamp list

-- each stamp is above the one before it
abbrev pub IsRising : List Filed → Type 0
IsRising [] = Unit {0}
IsRising (filed ∷ list) = AllAbove filed.stamp list × IsRising list

-- the stamps that a map has for a number
abbrev pub bucket_in : {Z S : Type 0} → HashMap ℕ (Vec ℕ Z) S → ℕ → List ℕ
bucket_in buckets number = option_map_or (λ stamps. stamps.items) (get nat_eq buckets number) []

-- the stamp, if it is filed under this number
abbrev pub stamp_under : ℕ → ℕ → ℕ → List ℕ
stamp_under number under stamp = if under == number then stamp ∷ [] else []

-- all stamps but one
abbrev pub without : ℕ → List ℕ → List ℕ
without stamp stamps = filter (λ other. not (other == stamp)) stamps
