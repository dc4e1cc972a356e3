-- Meaning. How the name of a variable is read.
use Rattle.std.specs.Prelude.{ℕ, ◌-◌, ◌==◌, nat_eq, nat_lt, List, Option, None, Some, length, take, drop, if◌then◌else◌, codes}
use Rattle.std.specs.List.{starts_with, ends_with, position_or_len, before_first, after_first}
use Rattle.tcl_text.specs.Bytes.{open_paren}

-- what stands before and after the first byte c of a text, if it has one
abbrev pub around_first : ℕ → List ℕ → Option (List ℕ × List ℕ)
around_first c text =
    if nat_lt (position_or_len (λ b. b == c) text) (length text)
    then Some (before_first (λ b. b == c) text, after_first (λ b. b == c) text)
    else None

-- a name `array(index)` means an element: it ends with `)`, and the array's name ends at the first `(` before that
abbrev pub element_of : List ℕ → Option (List ℕ × List ℕ)
element_of name = if ends_with nat_eq name (codes ")") then around_first open_paren (take (length name - 1) name) else None

-- a variable of a frame, or an element of it where an index is given
pub record Place : Type 0 where
  pub frame : ℕ
  pub variable : List ℕ
  pub element : Option (List ℕ)

-- the place of these parts of a name, or of the whole name where it has none
abbrev pub place_of_parts : ℕ → List ℕ → Option (List ℕ × List ℕ) → Place
place_of_parts frame name None = record { frame = frame; variable = name; element = None }
place_of_parts frame name (Some parts) = record { frame = frame; variable = parts.0; element = Some parts.1 }

-- where a name without a leading `::` points in a frame
abbrev pub place_in_frame : ℕ → List ℕ → Place
place_in_frame frame name = place_of_parts frame name (element_of name)

-- where a name points that is used in a frame: a leading `::` means the global frame
abbrev pub place_of : ℕ → List ℕ → Place
place_of frame name = if starts_with nat_eq name (codes "::") then place_in_frame 0 (drop 2 name) else place_in_frame frame name
