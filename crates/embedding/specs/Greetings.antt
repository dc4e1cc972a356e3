-- Meaning. What the program's own command answers.
use Rattle.std.specs.Prelude.{ℕ, List, Ok}
use Rattle.tk_alias.specs.Replies.{Answer}

-- its text, whatever the arguments are
abbrev pub greeted : List ℕ → List (List ℕ) → Answer
greeted text args = Ok text
