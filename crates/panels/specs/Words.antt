-- Meaning. Lines and words of a section: a line ends with an LF, and a blank stands between two words.
use Rattle.std.specs.Prelude.{ℕ, suc, zero, ◌+◌, ◌-◌, ◌*◌, min, Bool, false, ◌||◌, ◌==◌, if◌then◌else◌, List, [], ◌∷◌, filter}
use Rattle.std.specs.List.{onto_first}
use Rattle.std.specs.Str.{bytes_eq}

-- what stands before the first such byte: all where there is none
abbrev pub front : ℕ → List ℕ → List ℕ
front byte [] = []
front byte (b ∷ bs) = if b == byte then [] else b ∷ front byte bs

-- what stands behind the first such byte: nothing where there is none
abbrev pub behind : ℕ → List ℕ → List ℕ
behind byte [] = []
behind byte (b ∷ bs) = if b == byte then bs else behind byte bs

abbrev pub has_byte : ℕ → List ℕ → Bool
has_byte byte [] = false
has_byte byte (b ∷ bs) = b == byte || has_byte byte bs

-- what stands before the last such byte: all where there is none
abbrev pub before_last : ℕ → List ℕ → List ℕ
before_last byte [] = []
before_last byte (b ∷ bs) = if has_byte byte bs then b ∷ before_last byte bs else if b == byte then [] else b ∷ bs

-- what stands behind so many words
abbrev pub after : ℕ → List ℕ → List ℕ
after zero line = line
after (suc count) line = behind 32 (after count line)

-- the word of a number, from 0 on
abbrev pub word : ℕ → List ℕ → List ℕ
word number line = front 32 (after number line)

abbrev pub has_word : List ℕ → List ℕ → Bool
has_word first line = bytes_eq (front 32 line) first

abbrev pub lines_of : List ℕ → List (List ℕ)
lines_of [] = []
lines_of (byte ∷ bytes) = if byte == 10 then [] ∷ lines_of bytes else onto_first byte (lines_of bytes)

-- the lines that begin with a word
abbrev pub lines_with : List ℕ → List ℕ → List (List ℕ)
lines_with first text = filter (has_word first) (lines_of text)

-- the value of digits behind those of a number, up to the largest of 64 bits
abbrev pub value_behind : ℕ → List ℕ → ℕ
value_behind number [] = number
value_behind number (digit ∷ digits) = value_behind (min (min (number * 10) 18446744073709551615 + (digit - 48)) 18446744073709551615) digits

-- the number that a word spells
abbrev pub number_at : ℕ → List ℕ → ℕ
number_at number line = value_behind 0 (word number line)
