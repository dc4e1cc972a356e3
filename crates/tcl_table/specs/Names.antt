-- Meaning. The names of commands.
use Rattle.std.specs.Prelude.{ℕ, Bool, List, drop, nat_eq, if◌then◌else◌, codes}
use Rattle.std.specs.List.{starts_with}

-- a leading :: is dropped from a command's name
abbrev pub plain_name : List ℕ → List ℕ
plain_name name = if starts_with nat_eq name (codes "::") then drop 2 name else name

-- a name that begins with a dot is an outside command's
abbrev pub is_dotted : List ℕ → Bool
is_dotted name = starts_with nat_eq name (codes ".")
