-- Meaning. The rows of text that a window shows.
use Rattle.std.specs.Prelude.{ℕ, ◌==◌, if◌then◌else◌, List, [], ◌∷◌, ◌++◌, length, codes, nat_lt, Result, Ok, Err, encode_utf8_all}
use Rattle.std.specs.Str.{bytes_eq, chars}
use Rattle.tcl_text.specs.Limits.{most_bytes}
use Rattle.tcl_text.specs.Readings.{list_of}
use Rattle.tcl_text.specs.declared.fault.ListFault.{ListFault}
use Rattle.panels_text.specs.Texts.{lines_of, text_of}

-- the character that stands behind a backslash for another
abbrev pub meant_by : ℕ → ℕ
meant_by letter = if letter == 110 then 10 else if letter == 114 then 13 else if letter == 115 then 32 else letter

-- the characters that a section writes so: a backslash and the letter behind it are one
abbrev pub unescaped : List ℕ → List ℕ
unescaped [] = []
unescaped (one ∷ []) = if one == 92 then [] else one ∷ []
unescaped (one ∷ next ∷ others) = if one == 92 then meant_by next ∷ unescaped others else one ∷ unescaped (next ∷ others)

-- a character as a section writes it
abbrev pub written : ℕ → List ℕ
written one = if one == 92 then 92 ∷ 92 ∷ [] else if one == 10 then 92 ∷ 110 ∷ [] else if one == 13 then 92 ∷ 114 ∷ [] else one ∷ []

abbrev pub escaped : List ℕ → List ℕ
escaped [] = []
escaped (one ∷ others) = written one ++ escaped others

-- the items of a list; none where it isn't one, or passes the limit of a text
abbrev pub items_or_none : Result (List (List ℕ)) ListFault → List (List ℕ)
items_or_none (Ok items) = items
items_or_none (Err fault) = []

abbrev pub items_in : List ℕ → List (List ℕ)
items_in list = if nat_lt most_bytes (length list) then [] else items_or_none (list_of list)

abbrev pub rows_in : List ℕ → List ℕ → List (List ℕ)
rows_in class text = if bytes_eq class (codes "Listbox") then items_in text else if length text == 0 then [] else lines_of text

-- the rows of a window of a class, whose value a section writes so: of a listbox its items, of others the lines of the text
abbrev pub rows_of : List ℕ → List ℕ → List (List ℕ)
rows_of class value = rows_in class (encode_utf8_all (unescaped (chars (text_of value))))
