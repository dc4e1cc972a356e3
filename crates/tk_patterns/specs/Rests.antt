-- Steps. Several rising lists of stamps, gone through together.
use Rattle.std.specs.Prelude.{ℕ, ◌==◌, nat_le, if◌then◌else◌, List, [], ◌∷◌, Option, Some, None}

abbrev pub first_of : List ℕ → Option ℕ
first_of [] = None
first_of (stamp ∷ rest) = Some stamp

-- what is left of a list once a stamp is done
abbrev pub past : ℕ → List ℕ → List ℕ
past stamp [] = []
past stamp (first ∷ rest) = if first == stamp then rest else first ∷ rest

-- the one that comes first
abbrev pub earlier : Option ℕ → Option ℕ → Option ℕ
earlier None other = other
earlier (Some stamp) None = Some stamp
earlier (Some stamp) (Some other) = if nat_le stamp other then Some stamp else Some other
