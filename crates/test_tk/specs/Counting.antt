-- Meaning. What a service of this program answers.
use Rattle.std.specs.Prelude.{ℕ, List, ◌++◌, length}
use Rattle.std.specs.Fmt.{decimal}
use Rattle.tcl_text.specs.Answers.{Answer, answers}

-- how many arguments there are, and the unit
abbrev pub counted : List ℕ → List (List ℕ) → Answer
counted unit args = answers (decimal (length args) ++ unit)
