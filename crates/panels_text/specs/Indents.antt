-- Meaning. Braces whose lines don't stand below one another.
use Rattle.std.specs.Prelude.{ℕ, ◌-◌, Bool, ◌||◌, ◌==◌, nat_lt, List, [], ◌∷◌, ◌++◌, map, find, length, take, drop, replicate, Option, option_map}
use Rattle.std.specs.Char.{is_ascii_whitespace}
use Rattle.std.specs.List.{prefix_len, suffix_len}
use Rattle.panels_text.specs.Places.{numbered}
use Rattle.panels_text.specs.Texts.{lines_of}
use Rattle.panels_text.specs.declared.indents.Opened.{Opened}

-- a blank or a tab
abbrev pub is_blank : ℕ → Bool
is_blank byte = byte == 32 || byte == 9

-- a line without the white space that it ends with
abbrev pub without_end : List ℕ → List ℕ
without_end line = take (length line - suffix_len is_ascii_whitespace line) line

-- how many blanks and tabs a line begins with, and what stands behind them
abbrev pub indent_of : List ℕ → ℕ
indent_of line = prefix_len is_blank (without_end line)

abbrev pub bare : List ℕ → List ℕ
bare line = drop (indent_of line) (without_end line)

-- how many closing braces a text begins with, and how many opening ones it ends with
abbrev pub closing : List ℕ → ℕ
closing text = prefix_len (λ byte. byte == 125) text

abbrev pub opening : List ℕ → ℕ
opening text = suffix_len (λ byte. byte == 123) text

-- a brace that is open: the number of its line, and the indent
abbrev pub opened : ℕ → List ℕ → Opened
opened number line = record { line = number; indent = indent_of line }

-- the braces that are open behind a line, where these are before it: the last one first
abbrev pub open_behind : ℕ → List ℕ → List Opened → List Opened
open_behind number line braces = replicate (opening (bare line)) (opened number line) ++ drop (closing (bare line)) braces

-- those that a line closes, each with the indent of this line
abbrev pub closed_by : List ℕ → List Opened → List (Opened × ℕ)
closed_by line braces = map (λ brace. (brace, indent_of line)) (take (closing (bare line)) braces)

-- those that lines close, where these are open before them
abbrev pub closed_in : List Opened → List (ℕ × List ℕ) → List (Opened × ℕ)
closed_in braces [] = []
closed_in braces (line ∷ lines) = closed_by line.1 braces ++ closed_in (open_behind line.0 line.1 braces) lines

-- the line that closes a brace stands farther left than its own
abbrev pub is_displaced : Opened × ℕ → Bool
is_displaced closed = nat_lt closed.1 closed.0.indent

-- the line of the first brace of a script that is closed so, where the first line has this number
abbrev pub displaced : ℕ → List ℕ → Option ℕ
displaced first script = option_map (λ (closed : Opened × ℕ). closed.0.line) (find is_displaced (closed_in [] (numbered first (lines_of script))))
