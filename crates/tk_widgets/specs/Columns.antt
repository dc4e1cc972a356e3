-- Meaning. The columns of characters.
use Rattle.std.specs.Prelude.{ℕ, zero, suc, ◌+◌, Bool, false, nat_le, if◌then◌else◌, List, [], ◌∷◌, length, take}
use Rattle.unicode_width.specs.Width.{str_width}

-- The columns of a character as a text of its own: those that the crate unicode_width gives it where East Asian characters of ambiguous width take one (`false`).
-- A printing ASCII character takes one.
unfoldable pub columns : ℕ → ℕ
columns c = str_width false (c ∷ [])

-- the columns of characters, each by itself
abbrev pub columns_of : List ℕ → ℕ
columns_of [] = 0
columns_of (c ∷ cs) = columns c + columns_of cs

-- the greatest number up to one of which something holds, or else 0
abbrev pub greatest : (ℕ → Bool) → ℕ → ℕ
greatest holds zero = 0
greatest holds (suc n) = if holds (suc n) then suc n else greatest holds n

-- the first so many characters have room: their columns are at most so many
abbrev pub have_room : ℕ → List ℕ → ℕ → Bool
have_room room cs n = nat_le (columns_of (take n cs)) room

-- the greatest number of characters, from the first on, that have room
unfoldable pub characters_within : ℕ → List ℕ → ℕ
characters_within room cs = greatest (have_room room cs) (length cs)
