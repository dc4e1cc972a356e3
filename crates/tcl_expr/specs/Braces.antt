-- Steps. A text in braces: what it stands for, up to the brace that closes.
use Rattle.std.specs.Prelude.{ℕ, suc, ◌-◌, Bool, false, ◌==◌, ◌&&◌, ◌||◌, if◌then◌else◌, List, [], ◌∷◌, ◌++◌, Result, Ok, Err}
use Rattle.tcl_text.specs.Bytes.{tab, line_feed, space, backslash_sign, open_brace, close_brace}
use Rattle.tcl_expr.specs.declared.braces.BracePlace.{BracePlace}
use Rattle.tcl_expr.specs.declared.braces.BracePlace.TheVariants.{Plain, Escaped, Indented}
use Rattle.tcl_expr.specs.declared.fault.ExprFault.{ExprFault}
use Rattle.tcl_expr.specs.Faults.{missing_brace}

-- a newline behind a backslash, and the blanks and tabs behind that, are one blank
abbrev pub place_behind : BracePlace → ℕ → BracePlace
place_behind Plain b = if b == backslash_sign then Escaped else Plain
place_behind Escaped b = if b == line_feed then Indented else Plain
place_behind Indented b = if b == space || b == tab then Indented else if b == backslash_sign then Escaped else Plain

-- any other byte stands for itself, and so does the backslash before it
abbrev pub bytes_of : BracePlace → ℕ → List ℕ
bytes_of Plain b = if b == backslash_sign then [] else b ∷ []
bytes_of Escaped b = if b == line_feed then space ∷ [] else backslash_sign ∷ b ∷ []
bytes_of Indented b = if b == space || b == tab then [] else if b == backslash_sign then [] else b ∷ []

-- a brace behind a backslash isn't counted
abbrev pub depth_behind : BracePlace → ℕ → ℕ → ℕ
depth_behind Escaped depth b = depth
depth_behind place depth b = if b == open_brace then suc depth else if b == close_brace then depth - 1 else depth

abbrev pub closes : BracePlace → ℕ → ℕ → Bool
closes Escaped depth b = false
closes place depth b = b == close_brace && depth == 0

-- so much more, and its bytes
abbrev pub with_byte : List ℕ → Result (List ℕ × ℕ) ExprFault → Result (List ℕ × ℕ) ExprFault
with_byte own (Ok found) = Ok (own ++ found.0, suc found.1)
with_byte own (Err fault) = Err fault

-- what a text stands for up to the brace that closes, with so many more open, and how many bytes stand before that brace
abbrev pub braced : BracePlace → ℕ → List ℕ → Result (List ℕ × ℕ) ExprFault
braced place depth [] = Err missing_brace
braced place depth (b ∷ text) =
    if closes place depth b then Ok ([], 0)
    else with_byte (bytes_of place b) (braced (place_behind place b) (depth_behind place depth b) text)

-- a backslash whose meaning isn't known yet
abbrev pub pending : BracePlace → ℕ
pending Escaped = 1
pending place = 0
