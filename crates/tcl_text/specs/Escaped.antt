-- Steps. What the code says of backslashes, in the words of the definitions.
use Rattle.std.specs.Prelude.{List, ℕ, [], ◌∷◌, encode_utf8}
use Rattle.tcl_text.specs.Backslash as backslash
use Rattle.tcl_text.specs.declared.backslash.Meaning.{Meaning}
use Rattle.tcl_text.specs.declared.backslash.Meaning.TheVariants.{Byte, Character}
use Rattle.tcl_text.specs.declared.backslash.Escape.{Escape}
use Rattle.tcl_text.specs.declared.backslash.Digits.{Digits}

-- the bytes that are meant
abbrev pub bytes_meant : Meaning → List ℕ
bytes_meant (Byte b) = b ∷ []
bytes_meant (Character c) = encode_utf8 c

abbrev pub escape_seen : Escape → backslash.Escape
escape_seen e = record { meaning = bytes_meant e.meaning; length = e.length }

abbrev pub digits_seen : Digits → backslash.Digits
digits_seen d = record { value = d.value; count = d.count }
