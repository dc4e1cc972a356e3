-- Steps. Moves in a row, up to where a step, a task or the end is due.
use Rattle.std.specs.Prelude.{◌≡◌, ◌≢◌, ℕ, zero, suc, Bool, true, List, [], ◌∷◌, Option, Result, Ok, Err, IfOk}
use Rattle.tcl_vars.specs.Store.{Store}
use Rattle.tcl_expr.specs.declared.ask.Ask.{Ask}
use Rattle.tcl_expr.specs.declared.fault.EvalFault.{EvalFault}
use Rattle.tcl_expr.specs.Resuming.{Resumption, evaluation_told, answered}
use Rattle.tcl_expr.specs.Machine.{AsksBy}
use Rattle.tcl_expr.specs.Run.{Run, Ends as RunEnds}
use Rattle.tcl_expr.specs.Steps.{asks}
use Rattle.tcl_control.specs.declared.code.Code.{Code}
use Rattle.tcl_control.specs.declared.context.Context.{Context}
use Rattle.tcl_table.specs.Levels.{here}
use Rattle.tcl_interp.specs.Finish.{Doing, Begins, GoesOn, Indexes, Evaluates, Ends, Waiting}
use Rattle.tcl_interp.specs.Moves.{Moved, Standing, moved, standing, begin_move, go_on_move, indexes_move, answer_move, end_move}

-- what was to come of an evaluation that answers so
abbrev pub told_run : Result Ask EvalFault → Resumption → Run
told_run (Ok asked) next = asks asked (answered next)
told_run (Err fault) next = RunEnds (Err fault)

module _ {K : Type 0} where
  -- something ends, and what waited for it goes on
  abbrev pub ends_move : Store → Context → Code → List ℕ → List (Waiting K) → Standing K
  ends_move store context code text [] = standing (moved (Ends code text) []) store context
  ends_move store context code text (waiting ∷ waits) = end_move store context code text waiting waits

  abbrev pub quiet_by : Store → Context → Doing K → List (Waiting K) → Standing K
  quiet_by store context (Begins room text) waits = standing (begin_move room text waits) store context
  quiet_by store context (GoesOn room commands result) waits = standing (go_on_move (here context.levels store) store room commands result waits) store context
  quiet_by store context (Indexes x) waits = standing (indexes_move (here context.levels store) store x waits) store context
  quiet_by store context (Ends code text) waits = ends_move store context code text waits
  quiet_by store context doing waits = standing (moved doing waits) store context

  -- an evaluation goes on, up to where it asks for something or ends
  abbrev pub EvaluationMoves : ℕ → Store → ℕ → Resumption → Option (List ℕ) → List (Waiting K) → Moved K → Type 0
  EvaluationMoves level store room evaluation given waits after =
      (answer : Result Ask EvalFault) × (next : Resumption) × (evaluation_told evaluation given ≡ told_run answer next)
      × IfOk answer (λ asked. AsksBy evaluation.steps asked next.steps) × (after ≡ answer_move level store room next waits answer)

  abbrev pub MovesBy : Store → Context → Doing K → List (Waiting K) → Standing K → Type 0
  MovesBy store context (Evaluates room evaluation given) waits after =
      EvaluationMoves (here context.levels store) store room evaluation given waits after.moved × (after.store ≡ store) × (after.context ≡ context)
  MovesBy store context doing waits after = after ≡ quiet_by store context doing waits

  -- one move leads from one to the other
  abbrev pub Moves : Standing K → Standing K → Type 0
  Moves m n = MovesBy m.store m.context m.moved.doing m.moved.waits n

  -- so many moves do
  abbrev pub LeadsBy : ℕ → Standing K → Standing K → Type 0
  LeadsBy zero from to = to ≡ from
  LeadsBy (suc moves) from to = (between : Standing K) × LeadsBy moves from between × Moves between to

  -- some number of moves does
  abbrev pub Leads : Standing K → Standing K → Type 0
  Leads from to = (moves : ℕ) × LeadsBy moves from to

  -- there is more to do without a step
  abbrev pub IsQuietBy : Doing K → List (Waiting K) → Type 0
  IsQuietBy (Begins room text) waits = Unit {0}
  IsQuietBy (GoesOn room commands result) waits = Unit {0}
  IsQuietBy (Indexes x) waits = Unit {0}
  IsQuietBy (Evaluates room evaluation given) waits = Unit {0}
  IsQuietBy (Ends code text) waits = waits ≢ []
  IsQuietBy doing waits = ⊥

  abbrev pub IsQuiet : Moved K → Type 0
  IsQuiet m = IsQuietBy m.doing m.waits

  -- some number of moves does, and a quiet one behind them
  abbrev pub MovesOn : Standing K → Standing K → Type 0
  MovesOn from to = (between : Standing K) × Leads from between × IsQuiet between.moved × Moves between to

  -- a step is needed, a task is to be resumed, or all has ended; or a command is in front, where moves may stop before one
  abbrev pub IsDueBy : Bool → Doing K → List (Waiting K) → Type 0
  IsDueBy pauses (Begins room text) waits = ⊥
  IsDueBy pauses (GoesOn room commands result) waits = pauses ≡ true
  IsDueBy pauses (Indexes x) waits = ⊥
  IsDueBy pauses (Evaluates room evaluation given) waits = ⊥
  IsDueBy pauses (Ends code text) waits = waits ≡ []
  IsDueBy pauses doing waits = Unit {0}

  abbrev pub IsDue : Bool → Moved K → Type 0
  IsDue pauses m = IsDueBy pauses m.doing m.waits

  -- one of these, or a script is to be read
  abbrev pub StopsBy : Bool → Doing K → List (Waiting K) → Type 0
  StopsBy pauses (Begins room text) waits = Unit {0}
  StopsBy pauses doing waits = IsDueBy pauses doing waits

  abbrev pub Stops : Bool → Moved K → Type 0
  Stops pauses m = StopsBy pauses m.doing m.waits
