-- Meaning. The lines of a text, and their columns.
use Rattle.std.specs.Prelude.{ℕ, max, false, ◌==◌, List, [], ◌∷◌}
use Rattle.std.specs.List.{slice_split}
use Rattle.std.specs.Str.{chars}
use Rattle.unicode_width.specs.Width.{str_width}

-- the lines, which newlines part; the empty text is one line
abbrev pub lines_in : List ℕ → List (List ℕ)
lines_in text = slice_split (λ b. b == 10) text

-- the columns of a line, by unicode_width as in Columns, and of the widest of some lines
unfoldable pub columns_in : List ℕ → ℕ
columns_in line = str_width false (chars line)

abbrev pub widest : List (List ℕ) → ℕ
widest [] = 0
widest (line ∷ lines) = max (columns_in line) (widest lines)
