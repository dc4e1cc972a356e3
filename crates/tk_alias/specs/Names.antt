-- Meaning. The names that aliases may have, and how many aliases an application has.
use Rattle.std.specs.Prelude.{ℕ, Bool, false, not, ◌&&◌, ◌||◌, ◌==◌, nat_le, List, [], ◌∷◌, length}
use Rattle.std.specs.List.{list_all}

-- how many aliases an application has at most
abbrev pub most_aliases : ℕ
most_aliases = 64

-- how many bytes the name of an alias has at most
abbrev pub most_command_name : ℕ
most_command_name = 64

-- a printing ASCII character, and no blank
abbrev pub is_printing : ℕ → Bool
is_printing byte = nat_le 33 byte && nat_le byte 126

-- a dot in front, as in the path of a window, or two colons, as in the name of a namespace
abbrev pub begins_apart : List ℕ → Bool
begins_apart [] = false
begins_apart (c ∷ []) = c == 46
begins_apart (c ∷ d ∷ cs) = c == 46 || (c == 58 && d == 58)

-- a name that an alias may have: 1 to 64 printing characters
abbrev pub is_command_name : List ℕ → Bool
is_command_name name = nat_le 1 (length name) && nat_le (length name) most_command_name && list_all is_printing name && not (begins_apart name)
