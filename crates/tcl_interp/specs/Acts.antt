-- Steps. The outside commands of an object that serves them by acts and tasks: what they come to.
use Rattle.std.specs.Prelude.{ℕ, zero, suc, List, [], ◌∷◌}
use Rattle.tcl_control.specs.declared.code.Code.{Code}
use Rattle.tcl_control.specs.declared.code.Code.TheVariants.{Normal, Error}
use Rattle.tcl_table.specs.Texts.{unknown_command}
use Rattle.tcl_interp.specs.declared.tasks.Act.{Act}
use Rattle.tcl_interp.specs.declared.tasks.Act.TheVariants.{Done, Step, Run, Unknown}
use Rattle.tcl_interp.specs.Evaluation.{State, Outcome, Ended, OutOfSteps, and_then, with_step}
use Rattle.tcl_interp.specs.Outside.{Outside, Told}
use Rattle.tcl_interp.specs.Plans.{run_at}
use Rattle.tcl_interp.specs.Scripts.{out_of_global, scripts_by}

-- what an act comes to, where it is given how a script is run, and how a task goes on after a step and after a script
abbrev pub on_act : {S K : Type 0} → (List ℕ → State S → Outcome S) → (K → State S → Outcome S) → (K → State S → Code → List ℕ → Outcome S) → List ℕ
    → State S → Act K → Outcome S
on_act run after_step after_script name state (Done code text) = Ended state code text
on_act run after_step after_script name state (Step task) = with_step state (after_step task)
on_act run after_step after_script name state (Run script task) =
    and_then (run_at run 1 script state) (λ state' code text. after_script task state' (out_of_global code) text)
on_act run after_step after_script name state Unknown = Ended state Error (unknown_command name)

abbrev pub told_state : {S K : Type 0} → Told S K → State S → State S
told_state told state = record state { shows = told.shows; store = told.store }

module _ {S K : Type 0} (outside : Outside S K) (run : List ℕ → State S → Outcome S) where
  -- A task goes on, given how it goes on after a step. Each script that it runs makes it smaller, and one of size 0 runs none.
  abbrev pub resumed : (K → State S → Outcome S) → ℕ → K → State S → Code → List ℕ → Outcome S
  resumed after_step zero task state code text =
      (let told : Told S K = outside.resumes state.shows state.store task code text in
      on_act run after_step (λ _ state' _ _. OutOfSteps state') [] (told_state told state) told.act)
  resumed after_step (suc size) task state code text =
      (let told : Told S K = outside.resumes state.shows state.store task code text in
      on_act run after_step (resumed after_step size) [] (told_state told state) told.act)

  -- A task goes on after a step. There are no more such iterations than steps are left.
  abbrev pub after_step : ℕ → K → State S → Outcome S
  after_step zero task state = OutOfSteps state
  after_step (suc iterations) task state = resumed (after_step iterations) (outside.size task) task state Normal []

  -- a task goes on
  abbrev pub task_meaning : K → State S → Code → List ℕ → Outcome S
  task_meaning task state code text = resumed (after_step state.steps) (outside.size task) task state code text

  -- what an act of the outside commands comes to, for a command of this name
  abbrev pub act_meaning : List ℕ → State S → Act K → Outcome S
  act_meaning name state act = on_act run (after_step state.steps) task_meaning name state act

  -- an outside command is called, which first had this name
  abbrev pub outside_meaning : List ℕ → List ℕ → List (List ℕ) → State S → Outcome S
  outside_meaning name first arguments state =
      (let told : Told S K = outside.calls state.shows state.store (first ∷ arguments) in
      act_meaning name (told_state told state) told.act)

-- a script whose outside commands are these
abbrev pub script_meaning : {S K : Type 0} → Outside S K → ℕ → List ℕ → State S → Outcome S
script_meaning outside = scripts_by (outside_meaning outside)
