-- Meaning. How a panel ended: its errors, and its steps.
use Rattle.std.specs.Prelude.{ℕ, Bool, not, ◌&&◌, ◌==◌, if◌then◌else◌, List, ◌++◌, codes, find, nat_eq, Option, None}
use Rattle.std.specs.Fmt.{decimal}
use Rattle.tk_base.specs.declared.budget.Budget.{Budget}
use Rattle.std.specs.List.{slice_split, starts_with}
use Rattle.panels_bench.specs.declared.sides.Side.{Side}
use Rattle.panels_film.specs.Heads.{is_spent}

-- the first error of a transcript
abbrev pub error_in : List ℕ → Option (List ℕ)
error_in section = find (λ line. starts_with nat_eq line (codes "err ")) (slice_split (λ byte. byte == 10) section)

-- .. where the bench doesn't say that there may be one
abbrev pub unwanted_error : Side → List ℕ → Option (List ℕ)
unwanted_error side section = if side.may_fail then None else error_in section

-- it has spent its steps, and the bench doesn't say that it may
abbrev pub has_run_out : Side → List ℕ → Bool
has_run_out side section = not side.may_run_out && is_spent section

-- ---- in words

abbrev pub error_words : List ℕ → List ℕ
error_words error = codes "a script ended with an error: " ++ (error ++ codes " (errors = true lets it)")

abbrev pub refilled_words : ℕ → ℕ → List ℕ
refilled_words total refill = decimal total ++ (codes ", and " ++ (decimal refill ++ codes " more with each event"))

-- the steps that a panel had
abbrev pub steps_words : Budget → List ℕ
steps_words budget = if budget.refill == 0 then decimal budget.total else refilled_words budget.total budget.refill

abbrev pub spent_words : Budget → List ℕ
spent_words budget =
    codes "it ran out of steps, of which it had " ++ (steps_words budget ++ codes ": a script never ended, or took more than that (exhausted = true lets it)")
