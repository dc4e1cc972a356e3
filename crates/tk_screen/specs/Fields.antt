-- Meaning. Texts and numbers in the lines of a section.
use Rattle.std.specs.Prelude.{ℕ, Bool, true, false, List, [], ◌∷◌, ◌++◌, ◌==◌, if◌then◌else◌, codes, decimal, flat_map}

-- a byte of a text in a line: a backslash, a line feed and a carriage return are written with a backslash
abbrev pub escaped_byte : ℕ → List ℕ
escaped_byte byte = if byte == 92 then codes "\\\\" else if byte == 10 then codes "\\n" else if byte == 13 then codes "\\r" else byte ∷ []

abbrev pub escaped : List ℕ → List ℕ
escaped text = flat_map escaped_byte text

-- in a path a blank is, too
abbrev pub path_byte : ℕ → List ℕ
path_byte byte = if byte == 32 then codes "\\s" else escaped_byte byte

abbrev pub escaped_path : List ℕ → List ℕ
escaped_path path = flat_map path_byte path

-- a number after a blank
abbrev pub field : ℕ → List ℕ
field number = codes " " ++ decimal number

abbrev pub flag : Bool → ℕ
flag true = 1
flag false = 0
