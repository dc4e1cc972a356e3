-- Meaning. The texts of errors.
use Rattle.std.specs.Prelude.{ℕ, nat_le, if◌then◌else◌, List, ◌++◌, length, codes}
use Rattle.tcl_text.specs.Limits.{most_bytes}

-- the text that stands for one past 65,536 bytes
abbrev pub limit_text : List ℕ
limit_text = codes "limit reached: value"

-- the text of a message, or the limit's where it is past it
abbrev pub message : List ℕ → List ℕ
message text = if nat_le (length text) most_bytes then text else limit_text

-- the same, by its name alone
unfoldable pub bounded : List ℕ → List ℕ
bounded text = message text

-- a text in quotation marks
abbrev pub quoted : List ℕ → List ℕ
quoted text = codes "\"" ++ (text ++ codes "\"")

-- a command's words are too few or too many
abbrev pub wrong_args_text : List ℕ → List ℕ
wrong_args_text usage = codes "wrong # args: should be " ++ quoted usage

-- a word is none of those that may stand in its place
abbrev pub bad_option_text : List ℕ → List ℕ
bad_option_text word = codes "bad option " ++ quoted word

-- a word is no index
abbrev pub bad_index_text : List ℕ → List ℕ
bad_index_text word = codes "bad index " ++ quoted word

-- a name can't be that of a link or a command
abbrev pub bad_name_text : List ℕ → List ℕ
bad_name_text name = codes "can't use name " ++ quoted name

-- a word has no value behind it
abbrev pub missing_value_text : List ℕ → List ℕ
missing_value_text word = codes "value for " ++ (quoted word ++ codes " missing")

-- an integer is past 64 bits
abbrev pub too_large_text : List ℕ
too_large_text = codes "integer value too large to represent"
