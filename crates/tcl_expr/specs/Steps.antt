-- Steps. The steps of a tree, and what they come to. A stack is a list of values, the topmost first.
use Rattle.std.specs.Prelude.{ℕ, zero, suc, true, false, ◌++◌, List, [], ◌∷◌, length, if◌then◌else◌, ℤ, pos, Option, Some, None, Ok, Err}
use Rattle.tcl_text.specs.Readings.{integer_of}
use Rattle.tcl_expr.specs.declared.fault.EvalFault.TheVariants.{Overflow}
use Rattle.tcl_expr.specs.declared.ask.Ask.{Ask}
use Rattle.tcl_expr.specs.declared.ask.Ask.TheVariants as ask
use Rattle.tcl_expr.specs.declared.value.Value.{Value}
use Rattle.tcl_expr.specs.declared.value.Value.TheVariants.{Number, Words}
use Rattle.tcl_expr.specs.declared.step.Step.{Step}
use Rattle.tcl_expr.specs.declared.step.Step.TheVariants as step
use Rattle.tcl_expr.specs.Values.{truth_value, text_of_value, unary_value, binary_value}
use Rattle.tcl_expr.specs.Run.{Run, AsksVariable, AsksElement, AsksCommand, Ends, on_result, on_truth}
use Rattle.tcl_expr.specs.Trees.{Tree, Integer, Plain, Variable, Element, Command, Joined, Unary, Binary, And, Or, Choice, joined_values, final_text}

-- what is asked, and what the answer leads to
abbrev pub asks : Ask → (List ℕ → Run) → Run
asks (ask.Variable name) go = AsksVariable name go
asks (ask.Element array index) go = AsksElement array index go
asks (ask.Command script) go = AsksCommand script go
asks (ask.Value text) go = Ends (Ok text)

-- ── what steps come to ──

-- the topmost value, and those below it; the steps of a tree never take more than there are
abbrev pub top_of : List Value → Value
top_of [] = Number (pos 0)
top_of (v ∷ stack) = v

abbrev pub without_top : List Value → List Value
without_top [] = []
without_top (v ∷ stack) = stack

-- What a step makes of a stack, where `go` is what comes behind it with so many steps left out.
abbrev pub perform : Step → List Value → (ℕ → List Value → Run) → Run
perform step.TooLarge stack go = Ends (Err Overflow)
perform (step.Plain text) stack go = go 0 (Words text ∷ stack)
perform (step.Variable name) stack go = AsksVariable name (λ text. go 0 (Words text ∷ stack))
perform (step.Element array) stack go = AsksElement array (text_of_value (top_of stack)) (λ text. go 0 (Words text ∷ without_top stack))
perform (step.Command script) stack go = AsksCommand script (λ text. go 0 (Words text ∷ stack))
perform step.Join stack go = on_result (joined_values (top_of (without_top stack)) (top_of stack)) (λ v. go 0 (v ∷ without_top (without_top stack)))
perform (step.Unary operator) stack go = on_result (unary_value operator (top_of stack)) (λ v. go 0 (v ∷ without_top stack))
perform (step.Binary operator) stack go =
    on_result (binary_value operator (top_of (without_top stack)) (top_of stack)) (λ v. go 0 (v ∷ without_top (without_top stack)))
perform (step.And count) stack go =
    on_truth (top_of stack) (λ truth. if truth then go 0 (without_top stack) else go count (truth_value false ∷ without_top stack))
perform (step.Or count) stack go =
    on_truth (top_of stack) (λ truth. if truth then go count (truth_value true ∷ without_top stack) else go 0 (without_top stack))
perform step.Truth stack go = on_truth (top_of stack) (λ truth. go 0 (truth_value truth ∷ without_top stack))
perform (step.Branch count) stack go = on_truth (top_of stack) (λ truth. if truth then go 0 (without_top stack) else go count (without_top stack))
perform (step.Jump count) stack go = go count stack

-- what steps come to, of which so many are left out
abbrev pub execute : ℕ → List Step → List Value → Run
execute skip [] stack = Ends (Ok (final_text (top_of stack)))
execute (suc skip) (step ∷ steps) stack = execute skip steps stack
execute zero (step ∷ steps) stack = perform step stack (λ skip next. execute skip steps next)

-- ── the steps of a tree ──

abbrev pub literal_step : List ℕ → Option ℤ → Step
literal_step spelling (Some n) = step.Plain spelling
literal_step spelling None = step.TooLarge

abbrev pub steps_of : Tree → List Step
steps_of (Integer spelling) = literal_step spelling (integer_of spelling) ∷ []
steps_of (Plain text) = step.Plain text ∷ []
steps_of (Variable name) = step.Variable name ∷ []
steps_of (Element array index) = steps_of index ++ step.Element array ∷ []
steps_of (Command script) = step.Command script ∷ []
steps_of (Joined a b) = steps_of a ++ (steps_of b ++ step.Join ∷ [])
steps_of (Unary operator a) = steps_of a ++ step.Unary operator ∷ []
steps_of (Binary operator a b) = steps_of a ++ (steps_of b ++ step.Binary operator ∷ [])
steps_of (And a b) = steps_of a ++ step.And (suc (length (steps_of b))) ∷ (steps_of b ++ step.Truth ∷ [])
steps_of (Or a b) = steps_of a ++ step.Or (suc (length (steps_of b))) ∷ (steps_of b ++ step.Truth ∷ [])
steps_of (Choice a b c) =
    steps_of a ++ step.Branch (suc (length (steps_of b))) ∷ (steps_of b ++ step.Jump (length (steps_of c)) ∷ steps_of c)
