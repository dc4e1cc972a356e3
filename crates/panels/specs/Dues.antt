-- Meaning. When something happens next: `timer after#N DUE SCRIPT` is a line of a section.
use Rattle.std.specs.Prelude.{ℕ, min, nat_le, if◌then◌else◌, List, [], ◌∷◌, codes, Option, Some, None}
use Rattle.panels.specs.Words.{lines_with, number_at}

abbrev pub sooner : ℕ → Option ℕ → Option ℕ
sooner due None = Some due
sooner due (Some other) = Some (min due other)

-- a moment that is after the one that was reached
abbrev pub earlier : ℕ → ℕ → Option ℕ → Option ℕ
earlier reached due least = if nat_le due reached then least else sooner due least

abbrev pub least_due : ℕ → Option ℕ → List (List ℕ) → Option ℕ
least_due reached least [] = least
least_due reached least (line ∷ lines) = least_due reached (earlier reached (number_at 2 line) least) lines

-- The earliest moment after the one that was reached at which a timer is due.
abbrev pub next_due : ℕ → List ℕ → Option ℕ
next_due reached section = least_due reached None (lines_with (codes "timer") section)
