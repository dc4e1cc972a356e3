-- Steps. What the code keeps while it reads an expression, and how that stands to the trees that stand open.
use Rattle.std.specs.Prelude.{◌≡◌, ◌⊎◌, ℕ, suc, ◌+◌, ◌-◌, Bool, true, false, ◌==◌, nat_le, List, [], ◌∷◌, ◌++◌, length, set, Result, Ok, Err}
use Rattle.std.specs.declared.alloc.AllocError.{AllocError}
use Rattle.tcl_expr.specs.declared.operators.Infix.{Infix}
use Rattle.tcl_expr.specs.declared.operators.Infix.TheVariants as infixed
use Rattle.tcl_expr.specs.declared.step.Step.{Step}
use Rattle.tcl_expr.specs.declared.step.Step.TheVariants as step
use Rattle.tcl_expr.specs.declared.open.Open.{Open}
use Rattle.tcl_expr.specs.declared.open.Open.TheVariants as open_form
use Rattle.tcl_expr.specs.Trees.{Tree}
use Rattle.tcl_expr.specs.Steps.{steps_of}
use Rattle.tcl_expr.specs.Reading.{Opened, Before, After, Paren, Question, Otherwise, close}
use Rattle.tcl_expr.specs.Operators.{level_of}

-- ── what the code does to the steps ──

abbrev pub is_ended_at : ℕ → Open → Bool
is_ended_at level (open_form.Before operator) = true
is_ended_at level (open_form.After operator mark) = nat_le level (level_of operator)
is_ended_at level open_form.Paren = false
is_ended_at level (open_form.Question mark) = false
is_ended_at level (open_form.Otherwise mark) = level == 0

abbrev pub infix_ended : Infix → ℕ → List Step → List Step
infix_ended infixed.And mark steps = set steps mark (step.And (length steps - mark)) ++ step.Truth ∷ []
infix_ended infixed.Or mark steps = set steps mark (step.Or (length steps - mark)) ++ step.Truth ∷ []
infix_ended (infixed.Binary operator) mark steps = steps ++ step.Binary operator ∷ []

abbrev pub open_ended : Open → List Step → List Step
open_ended (open_form.Before operator) steps = steps ++ step.Unary operator ∷ []
open_ended (open_form.After operator mark) steps = infix_ended operator mark steps
open_ended open_form.Paren steps = steps
open_ended (open_form.Question mark) steps = steps
open_ended (open_form.Otherwise mark) steps = set steps mark (step.Jump (length steps - mark - 1))

-- the innermost that stands open ended, or it doesn't end, or none is there
abbrev pub EndsLast : ℕ → List Open → List Step → Result Bool AllocError → List Open → List Step → Type 0
EndsLast level opened steps (Ok true) opened' steps' =
    (last : Open) × (opened ≡ opened' ++ last ∷ []) × (is_ended_at level last ≡ true) × (steps' ≡ open_ended last steps)
EndsLast level opened steps (Ok false) opened' steps' =
    (opened' ≡ opened) × (steps' ≡ steps)
    × ((opened ≡ []) ⊎ ((below : List Open) × (last : Open) × (opened ≡ below ++ last ∷ []) × (is_ended_at level last ≡ false)))
EndsLast level opened steps (Err refused) opened' steps' = Unit {0}

-- ── what they stand for ──

-- the steps of a condition and of what is chosen where it is true
abbrev pub chosen_steps : Tree → Tree → List Step
chosen_steps a b = steps_of a ++ step.Branch (suc (length (steps_of b))) ∷ steps_of b

-- what is written behind a left operand, to be told later how many steps it can leave out
abbrev pub infix_hole : Infix → List Step
infix_hole infixed.And = step.And 0 ∷ []
infix_hole infixed.Or = step.Or 0 ∷ []
infix_hole (infixed.Binary operator) = []

abbrev pub infix_written : Infix → Tree → List Step
infix_written infixed.And a = steps_of a ++ step.And 0 ∷ []
infix_written infixed.Or a = steps_of a ++ step.Or 0 ∷ []
infix_written (infixed.Binary operator) a = steps_of a

-- the steps that are written for what stands open
abbrev pub own_written : Opened → List Step
own_written (Before operator) = []
own_written (After operator a) = infix_written operator a
own_written Paren = []
own_written (Question a) = steps_of a ++ step.Branch 0 ∷ []
own_written (Otherwise a b) = chosen_steps a b ++ step.Jump 0 ∷ []

abbrev pub opened_written : List Opened → List Step
opened_written [] = []
opened_written (own ∷ opened) = opened_written opened ++ own_written own

-- and what the code keeps of it, with so many steps before it
abbrev pub kept : Opened → ℕ → Open
kept (Before operator) n = open_form.Before operator
kept (After operator a) n = open_form.After operator (n + length (steps_of a))
kept Paren n = open_form.Paren
kept (Question a) n = open_form.Question (n + length (steps_of a))
kept (Otherwise a b) n = open_form.Otherwise (n + length (chosen_steps a b))

abbrev pub all_kept : List Opened → List Open
all_kept [] = []
all_kept (own ∷ opened) = all_kept opened ++ kept own (length (opened_written opened)) ∷ []

-- the code keeps this, with these steps behind it
pub record Holds (kept_opened : List Open) (steps : List Step) (opened : List Opened) (own : List Step) : Type 0 where
  pub marks : kept_opened ≡ all_kept opened
  pub steps_are : steps ≡ opened_written opened ++ own

-- the code closed what ends at a level
abbrev pub Closes : ℕ → List Open → List Step → List Open → List Step → Type 0
Closes level opened steps opened' steps' =
    (before : List Opened) (tree : Tree) → Holds opened steps before (steps_of tree) →
    Holds opened' steps' (close level before tree).opened (steps_of (close level before tree).tree)
