-- Meaning. Path names of windows: `.` is the main window, and a child's is its parent's, a dot and its name, with one dot alone below `.`.
use Rattle.std.specs.Prelude.{ℕ, Bool, true, false, ◌==◌, ◌&&◌, nat_le, List, [], ◌∷◌, ◌++◌, Option, None, Some, option_and_then, Result, if◌then◌else◌, codes}
use Rattle.std.specs.Str.{bytes_eq}
use Rattle.tcl_text.specs.Answers.{fails, quoted}

-- what stands before the last dot, and behind it
abbrev pub with_front : ℕ → List ℕ → Option (List ℕ × List ℕ) → Option (List ℕ × List ℕ)
with_front c rest (Some parts) = Some (c ∷ parts.0, parts.1)
with_front c rest None = if c == 46 then Some ([], rest) else None

abbrev pub split_last : List ℕ → Option (List ℕ × List ℕ)
split_last [] = None
split_last (c ∷ rest) = with_front c rest (split_last rest)

abbrev pub is_empty : List ℕ → Bool
is_empty [] = true
is_empty (c ∷ rest) = false

-- the parent's path and the name, from what stands before and behind the last dot; none where the name is empty, or where a component before it is, as in `..a`
abbrev pub child_names : List ℕ × List ℕ → Option (List ℕ × List ℕ)
child_names parts =
    if is_empty parts.1 then None else
    if bytes_eq parts.0 (codes ".") then None else
    if is_empty parts.0 then Some (codes ".", parts.1) else Some parts

-- the path of the parent, and the name below it; none for `.` and for what is no path
abbrev pub parent_and_name : List ℕ → Option (List ℕ × List ℕ)
parent_and_name path = option_and_then child_names (split_last path)

-- whether the first character is one of A to Z
abbrev pub begins_upper : List ℕ → Bool
begins_upper [] = false
begins_upper (c ∷ rest) = nat_le 65 c && nat_le c 90

-- the error for a path that no window has (24)
abbrev pub bad_path : {T : Type 0} → List ℕ → Result T (List ℕ)
bad_path path = fails (codes "bad window path name " ++ quoted path)
