-- Steps. How the words of `if` are cut, one after another. What they mean is IsIf of Shapes, which law if_words_are_cut says this comes to.
use Rattle.std.specs.Prelude.{ℕ, List, [], ◌∷◌, if◌then◌else◌, Option, Some, None, option_map, codes, bytes_eq}
use Rattle.tcl_commands.specs.declared.branches.Clause.{Clause}
use Rattle.tcl_commands.specs.declared.branches.Clause.TheVariants.{AtTest, AtThen, AtBody, Behind, AtLast, AtEnd}
use Rattle.tcl_commands.specs.declared.branches.Choices.{Choices}
use Rattle.tcl_commands.specs.Branches.{branch_of}

abbrev pub with_branch : List ℕ → List ℕ → Choices → Choices
with_branch test body choices = record choices { branches = branch_of test body ∷ choices.branches }

-- The words of `if` behind its name, from a clause's place on: cond ?then? body ?elseif cond ?then? body ..? ?else? ?body?
abbrev pub choices_from : Clause → List (List ℕ) → Option Choices
choices_from AtTest [] = None
choices_from AtTest (word ∷ words) = choices_from (AtThen word) words
choices_from (AtThen test) [] = None
choices_from (AtThen test) (word ∷ words) =
    if bytes_eq word (codes "then") then choices_from (AtBody test) words
    else option_map (with_branch test word) (choices_from Behind words)
choices_from (AtBody test) [] = None
choices_from (AtBody test) (word ∷ words) = option_map (with_branch test word) (choices_from Behind words)
choices_from Behind [] = Some (record { branches = []; otherwise = None })
choices_from Behind (word ∷ words) =
    if bytes_eq word (codes "elseif") then choices_from AtTest words
    else (if bytes_eq word (codes "else") then choices_from AtLast words
    else choices_from (AtEnd word) words)
choices_from AtLast [] = None
choices_from AtLast (word ∷ words) = choices_from (AtEnd word) words
choices_from (AtEnd body) [] = Some (record { branches = []; otherwise = Some body })
choices_from (AtEnd body) (word ∷ words) = None

-- the branches of `if`, and its last body; none where the words don't fit
unfoldable pub choices_of : List (List ℕ) → Option Choices
choices_of words = choices_from AtTest words
