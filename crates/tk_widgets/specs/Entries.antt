-- Meaning. An entry of entry(n): its text, its cursor, and what edits make of them. Places count characters.
use Rattle.std.specs.Prelude.{ℕ, ◌+◌, ◌-◌, min, Bool, false, not, ◌&&◌, ◌==◌, nat_le, nat_lt, if◌then◌else◌, List, [], ◌∷◌, Option, Some, None, option_map, codes}
use Rattle.std.specs.Str.{chars, bytes_eq}
use Rattle.tcl_text.specs.Characters.{size, with_inserted, without_characters}
use Rattle.tcl_text.specs.Indices.{from_zero}
use Rattle.tcl_text.specs.Readings.{integer_of}
use Rattle.tk_widgets.specs.declared.entry.Entry.{Entry}
use Rattle.tk_widgets.specs.declared.entry_keys.Move.{Move}
use Rattle.tk_widgets.specs.declared.entry_keys.Move.TheVariants.{Left, Right, Home, End}

-- ---- what an entry shows

-- the variable's text, where there is one that can be read, or else the entry's own
abbrev pub shown : Option (List ℕ) → Entry → List ℕ
shown (Some text) entry = text
shown None entry = entry.text

-- where the cursor stands in it: at its end, where it is kept past that
abbrev pub cursor_in : List ℕ → Entry → ℕ
cursor_in text entry = min entry.cursor (size text)

-- ---- indices

-- a number, cut to what there is
abbrev pub number_in : List ℕ → ℕ → Option ℕ
number_in word most = option_map (λ n. min (from_zero n) most) (integer_of word)

-- how many characters stand before an index, of so many, with so many before the cursor
unfoldable pub index_in : List ℕ → ℕ → ℕ → Option ℕ
index_in word all cursor =
    if bytes_eq word (codes "end") then Some all
    else (if bytes_eq word (codes "insert") then Some cursor
    else number_in word all)

-- ---- edits

-- `insert index text`: the text stands behind the first so many characters, and the cursor moves on where it stands there or behind
abbrev pub inserted : ℕ → List ℕ → List ℕ → ℕ → Entry
inserted at new text cursor = record {
  text = with_inserted at new text;
  cursor = if nat_le at cursor then cursor + size new else cursor;
}

-- `delete first last`: the characters from the first place on and before the last are gone, and the cursor moves back by those before it
abbrev pub deleted : ℕ → ℕ → List ℕ → ℕ → Entry
deleted first last text cursor = record {
  text = without_characters first last text;
  cursor = cursor - (min cursor last - first);
}

-- an edit of what an entry shows
abbrev pub edited : (List ℕ → ℕ → Entry) → Option (List ℕ) → Entry → Entry
edited edit variable entry = edit (shown variable entry) (cursor_in (shown variable entry) entry)

-- ---- keys

-- a text that a key puts in begins with a character that is no control character
abbrev pub is_typed : List ℕ → Bool
is_typed [] = false
is_typed (c ∷ cs) = nat_le 32 c && not (c == 127)

-- the text at the cursor
abbrev pub at_cursor : List ℕ → List ℕ → ℕ → Entry
at_cursor new text cursor = inserted cursor new text cursor

-- without the character before the cursor, and without the one behind it
abbrev pub without_before : List ℕ → ℕ → Entry
without_before text cursor = deleted (cursor - 1) cursor text cursor

abbrev pub without_behind : List ℕ → ℕ → Entry
without_behind text cursor = deleted cursor (cursor + 1) text cursor

-- what a key makes of an entry, if it edits it
abbrev pub by_text : List ℕ → Option (List ℕ) → Entry → Option Entry
by_text new variable entry = if is_typed (chars new) then Some (edited (at_cursor new) variable entry) else None

abbrev pub by_backspace : Option (List ℕ) → Entry → Option Entry
by_backspace variable entry = if nat_lt 0 (cursor_in (shown variable entry) entry) then Some (edited without_before variable entry) else None

abbrev pub by_delete : Option (List ℕ) → Entry → Option Entry
by_delete variable entry =
    if nat_lt (cursor_in (shown variable entry) entry) (size (shown variable entry)) then Some (edited without_behind variable entry) else None

-- the way that a word names
unfoldable pub move_named : List ℕ → Option Move
move_named word =
    if bytes_eq word (codes "left") then Some Left
    else (if bytes_eq word (codes "right") then Some Right
    else (if bytes_eq word (codes "home") then Some Home
    else (if bytes_eq word (codes "end") then Some End
    else None)))

-- the cursor goes by a character of the text shown, where there is one, or to an end of it; else it is kept as it was
abbrev pub with_cursor : ℕ → Entry → Entry
with_cursor at entry = record entry { cursor = at }

abbrev pub moved : Move → List ℕ → Entry → Entry
moved Left text entry = if nat_lt 0 (cursor_in text entry) then with_cursor (cursor_in text entry - 1) entry else entry
moved Right text entry = if nat_lt (cursor_in text entry) (size text) then with_cursor (cursor_in text entry + 1) entry else entry
moved Home text entry = with_cursor 0 entry
moved End text entry = with_cursor (size text) entry
