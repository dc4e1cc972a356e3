-- Meaning. What the words of a sequence are cut at, and which of them are buttons and names of virtual events.
use Rattle.std.specs.Prelude.{ℕ, ◌-◌, Bool, true, false, ◌&&◌, ◌||◌, ◌==◌, not, nat_lt, if◌then◌else◌, List, [], ◌∷◌, ◌++◌, length, take, drop, Option, Some, None, codes}
use Rattle.std.specs.List.{list_all}
use Rattle.std.specs.Str.{bytes_eq}
use Rattle.tcl_text.specs.Backslash.{is_white}
use Rattle.tk_sequences.specs.Lookup.{looked_up}
use Rattle.tk_sequences.specs.declared.pattern.Repetition.{Repetition}
use Rattle.tk_sequences.specs.declared.pattern.Repetition.TheVariants.{Single, Double, Triple, Quadruple}

-- fields within brackets are separated by `-` and white space
abbrev pub is_separator : ℕ → Bool
is_separator byte = byte == 45 || is_white byte

abbrev pub is_some_text : List ℕ → Bool
is_some_text text = nat_lt 0 (length text)

-- the buttons
abbrev pub button_words : List (List ℕ × ℕ)
button_words = (codes "1", 1) ∷ (codes "2", 2) ∷ (codes "3", 3) ∷ (codes "4", 4) ∷ (codes "5", 5) ∷ []

abbrev pub button_named : List ℕ → Option ℕ
button_named word = looked_up word button_words

-- the event comes once, as where nothing says how often
abbrev pub is_single : Repetition → Bool
is_single Single = true
is_single Double = false
is_single Triple = false
is_single Quadruple = false

-- a virtual event's name in its brackets
abbrev pub in_brackets : List ℕ → List ℕ
in_brackets name = codes "<<" ++ (name ++ codes ">>")

abbrev pub has_no_closing : List ℕ → Bool
has_no_closing bytes = list_all (λ byte. not (byte == 62)) bytes

abbrev pub is_name : List ℕ → Bool
is_name name = is_some_text name && has_no_closing name

-- what stands between the first two bytes and the last two
abbrev pub middle : List ℕ → List ℕ
middle text = drop 2 (take (length text - 2) text)

-- the name of which the text is the form in brackets
unfoldable pub name_in : List ℕ → Option (List ℕ)
name_in text = if is_name (middle text) && bytes_eq text (in_brackets (middle text)) then Some (middle text) else None
