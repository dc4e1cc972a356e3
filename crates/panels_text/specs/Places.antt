-- Meaning. Places in files, and what is wrong there.
use Rattle.std.specs.Prelude.{◌≡◌, ℕ, ◌+◌, ◌-◌, ◌^◌, min, Bool, false, ◌==◌, if◌then◌else◌, List, [], ◌∷◌, ◌++◌, length, map, filter, find, take, drop, slice_get, codes, nat_eq, Option, Some, None}
use Rattle.std.specs.Fmt.{decimal}
use Rattle.std.specs.List.{enumerate_from, starts_with}
use Rattle.std.specs.Str.{bytes_eq, trim}
use Rattle.std.specs.String.{string_bytes}
use Rattle.panels_text.specs.Texts.{before, behind, lines_of}
use Rattle.panels_text.specs.declared.failure.Failure.{Failure}
use Rattle.panels_text.specs.declared.failure.Failure.TheVariants.{Said, Unserved, NoMemory, Stream}

-- how many lines end in a text
abbrev pub count_breaks : List ℕ → ℕ
count_breaks text = length (filter (λ byte. byte == 10) text)

-- the number of the line behind one, as far as numbers go
abbrev pub later_line : ℕ → ℕ
later_line number = min (number + 1) (2 ^ 64 - 1)

-- lines with their numbers, of which this is the first
abbrev pub numbered : {A : Type 0} → ℕ → List A → List (ℕ × A)
numbered number [] = []
numbered number (line ∷ lines) = (number, line) ∷ numbered (later_line number) lines

-- the number of the line in which a byte stands, from 1 on
abbrev pub line_at : List ℕ → ℕ → ℕ
line_at text byte = 1 + count_breaks (take byte text)

-- `FILE:LINE: WORDS`, without the line where it is 0
abbrev pub fault_text : List ℕ → ℕ → List ℕ → List ℕ
fault_text file line words = if line == 0 then file ++ codes ": " ++ words else file ++ codes ":" ++ decimal line ++ codes ": " ++ words

-- the text is said, or there is no memory for it
abbrev pub IsFault : List ℕ → Failure → Type 0
IsFault text (Said said) = string_bytes said ≡ text
IsFault text (Unserved name) = ⊥
IsFault text NoMemory = Unit {0}
IsFault text Stream = ⊥

abbrev pub IsNoMemory : Failure → Type 0
IsNoMemory NoMemory = Unit {0}
IsNoMemory _ = ⊥

-- memory was refused to the panel of this name, or none is left for the name
abbrev pub IsUnserved : List ℕ → Failure → Type 0
IsUnserved name (Said said) = ⊥
IsUnserved name (Unserved told) = told ≡ name
IsUnserved name NoMemory = Unit {0}
IsUnserved name Stream = ⊥

-- a line of TOML with which a table begins
abbrev pub begins_table : List ℕ → Bool
begins_table line = starts_with nat_eq (trim line) (codes "[")

abbrev pub inside : Option (List ℕ) → Option (List ℕ)
inside None = None
inside (Some rest) = before (codes "]]") rest

abbrev pub is_name : List ℕ → Option (List ℕ) → Bool
is_name array None = false
is_name array (Some name) = bytes_eq (trim name) array

-- a line with which an entry of an array of tables begins: its name in double brackets
abbrev pub is_head : List ℕ → List ℕ → Bool
is_head array line = is_name array (inside (behind (codes "[[") (trim line)))

abbrev pub begins_value : Option (List ℕ) → Bool
begins_value None = false
begins_value (Some rest) = starts_with nat_eq (trim rest) (codes "=")

-- a line that begins with a key and its equals sign
abbrev pub has_key : List ℕ → List ℕ → Bool
has_key key line = begins_value (behind key (trim line))

-- the numbers of the lines with which the entries of an array of tables begin, where the first line has this number
abbrev pub heads_from : ℕ → List ℕ → List (List ℕ) → List ℕ
heads_from number array lines = map (λ (line : ℕ × List ℕ). line.0) (filter (λ (line : ℕ × List ℕ). is_head array line.1) (enumerate_from number lines))

-- the lines of a table: those up to the next one
abbrev pub table_lines : List (List ℕ) → List (List ℕ)
table_lines [] = []
table_lines (line ∷ lines) = if begins_table line then [] else line ∷ table_lines lines

abbrev pub number_or : ℕ → Option (ℕ × List ℕ) → ℕ
number_or head None = head
number_or head (Some line) = line.0

-- the number of the first line of a table that has a key, where the first of these has this number: that of its head where none has it
abbrev pub key_line : ℕ → ℕ → List ℕ → List (List ℕ) → ℕ
key_line head number key lines = number_or head (find (λ (line : ℕ × List ℕ). has_key key line.1) (enumerate_from number (table_lines lines)))

abbrev pub entry_line : List ℕ → List ℕ → Option ℕ → ℕ
entry_line bench key None = 0
entry_line bench key (Some head) = key_line head (head + 1) key (drop head (lines_of bench))

-- the line that has a key: of the bench itself, or of the entry of this number of an array of tables; 0 where there is no such entry
abbrev pub line_of : List ℕ → List ℕ → ℕ → List ℕ → ℕ
line_of bench array index key =
    if length array == 0 then key_line 0 1 key (lines_of bench) else entry_line bench key (slice_get (heads_from 1 array (lines_of bench)) index)
