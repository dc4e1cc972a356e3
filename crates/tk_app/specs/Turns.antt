-- Steps. For who runs applications turn by turn (`Shared`, `AppView`): all applications side by side, and what a turn of one of them makes of all. What
-- becomes of an application by itself needs none of it, and stands in `Moments`.
use Rattle.std.specs.Prelude.{◌≡◌, ◌≢◌, ◌⊎◌, ℕ, ◌+◌, ◌-◌, ◌≤◌, ◌<◌, Bool, List, [], ◌∷◌, ◌++◌, Some, min, slice_get, slice_set}
use Rattle.tcl_vars.specs.Store.{Store}
use Rattle.tcl_interp.specs.declared.interp.SliceEnd.{SliceEnd}
use Rattle.tcl_interp.specs.declared.interp.SliceEnd.TheVariants as slice
use Rattle.tcl_interp.specs.Finish.{RestToDo, Idle, Spent, Broken}
use Rattle.tcl_interp.specs.declared.interp.Interp.{Interp}
use Rattle.tcl_interp.specs.Interp.{IsRunning, context_of, left_of, rest_of}
use Rattle.tcl_table.specs.Table.{NamedCommands, first_commands}
use Rattle.tcl_interp.specs.declared.job.Task.{Task}
use Rattle.tcl_interp.specs.declared.job.Task.TheVariants as task
use Rattle.tk_base.specs.declared.local_event.LocalEvent.{LocalEvent}
use Rattle.tk_panel.specs.declared.job.Job.{Job}
use Rattle.tk_route.specs.Limits.{most_applications}
use Rattle.tk_panel.specs.declared.tables.Tables.{Tables}
use Rattle.tk_panel.specs.Fresh.{nothing}
use Rattle.tk_panel.specs.Panel.{Panel}
use Rattle.tk_panel.specs.Shared.{panel_of}
use Rattle.tk_app.specs.declared.turns.Turn.{Turn}
use Rattle.tk_app.specs.Rounds.{one_turn}
use Rattle.tk_base.specs.declared.budget.Budget.{Budget}
use Rattle.tk_app.specs.declared.runner.Progress.{Progress}
use Rattle.tk_app.specs.declared.runner.Progress.TheVariants.{Resting, Going, Lost}
use Rattle.tk_app.specs.declared.state.AppState.{AppState}
use Rattle.tk_app.specs.declared.state.AppState.TheVariants.{Running, Exhausted, Closed}
use Rattle.tk_app.specs.declared.state.AppEnd.{AppEnd}
use Rattle.tk_app.specs.declared.state.AppEnd.TheVariants.{Settled, More, Stopped}
use Rattle.tk_app.specs.Application.{Application}
use Rattle.tk_app.specs.Names.{command_names}
use Rattle.tk_app.specs.Moments.{delivered, granted}
use Rattle.tk_app.specs.Part.{Part, Work, Rests, needs, settling_begun, stage_done, task_begins, work_of}
use Rattle.tk_app.specs.Seen.{Meaning, names_of}
use Rattle.tk_app.specs.SettleJob.{settling}

-- the moment, the part in each slot, the turns that were taken, and whether memory was refused while one was taken
pub record Applications (M : Type 0) : Type 0 where
  pub moment : ℕ
  pub parts : List (Part M)
  pub turns : List Turn
  pub refused : Bool

-- ── parts of the tables ──

-- what of an application doesn't stand in the tables
pub record Program (M : Type 0) : Type 0 where
  pub name : List ℕ
  pub aliases : List (List ℕ × M)
  pub budget : Budget
  pub store : Store
  pub commands : NamedCommands
  pub steps : ℕ
  pub state : AppState
  pub work : Work

-- before its script, which is what is to be done
abbrev pub beginning : {M : Type 0} → List ℕ → List ℕ → Budget → List (List ℕ × M) → Program M
beginning name script budget aliases = record {
  name = name;
  aliases = aliases;
  budget = budget;
  store = [] ∷ [];
  commands = first_commands (command_names ++ names_of aliases);
  steps = budget.total;
  state = Running;
  work = task_begins (task.Begins script settling);
}

-- nothing is under way in one that doesn't run
abbrev pub work_by : AppState → Work → Work
work_by Running work = work
work_by Exhausted work = Rests
work_by Closed work = Rests

-- one by what its runner keeps: the commands, the steps left and what is under way stand in its interpreter
abbrev pub program_with : {M : Type 0} → List ℕ → List (List ℕ × M) → Budget → Store → Interp (Task Job) → AppState → Program M
program_with name aliases budget store interp state = record {
  name = name;
  aliases = aliases;
  budget = budget;
  store = store;
  commands = (context_of interp).commands;
  steps = left_of interp;
  state = state;
  work = work_by state (work_of (rest_of interp) (context_of interp).levels);
}

abbrev pub application_of : {M : Type 0} → Panel → Program M → Application M
application_of panel program = record {
  name = program.name;
  aliases = program.aliases;
  store = program.store;
  commands = program.commands;
  windowing = panel.windowing;
  bindings = panel.bindings;
  virtuals = panel.virtuals;
  history = panel.history;
  queue = panel.queue;
  input = panel.input;
  timers = panel.timers;
  transcript = panel.transcript;
  budget = program.budget;
  steps = program.steps;
  state = program.state;
}

abbrev pub part_of : {M : Type 0} → Panel → Program M → Part M
part_of panel program = record { application = application_of panel program; work = program.work }

-- the parts from a slot on
unfoldable pub parts_from : {M : Type 0} → ℕ → Tables → List (Program M) → List (Part M)
parts_from slot tables [] = []
parts_from slot tables (program ∷ programs) = part_of (panel_of slot tables) program ∷ parts_from (slot + 1) tables programs

-- no application from a slot on has anything
abbrev pub IsVacantFrom : ℕ → Tables → Type 0
IsVacantFrom first tables = (slot : ℕ) → first ≤ slot → slot < most_applications → panel_of slot tables ≡ nothing tables.clock

-- ── turns ──

-- whether something is left to do, or the application has stopped
abbrev pub EndsAs : {M : Type 0} → AppEnd → Part M → Type 0
EndsAs Settled part = (part.application.state ≡ Running) × (part.work ≡ Rests)
EndsAs More part = (part.application.state ≡ Running) × (part.work ≢ Rests)
EndsAs Stopped part = (part.application.state ≢ Running) × (part.work ≡ Rests)

-- A turn of at most so many steps, at a moment, of a part in which settling has begun. After it the same is to be done as before it, less by the
-- steps; with nothing more to do, all of it is done.
pub record TakesTurn {M : Type 0} (answer : M → Meaning) (moment steps : ℕ) (end : AppEnd) (begun after : Part M) : Type 0 where
  pub same : stage_done answer moment after ≡ stage_done answer moment begun
  pub left : needs answer moment after ≡ needs answer moment begun - steps
  pub taken : begun.application.steps - after.application.steps ≡ min steps (needs answer moment begun)
  pub last : end ≢ More → after ≡ stage_done answer moment begun
  pub more : end ≡ More → steps ≤ needs answer moment begun
  pub ends : EndsAs end after

-- Whatever comes of it, only the part in one slot has changed; it took at most so many steps, which are told.
pub record ChangesOnly {M : Type 0} (steps slot : ℕ) (old new : Applications M) : Type 0 where
  pub before : Part M
  pub after : Part M
  pub was : slice_get old.parts slot ≡ Some before
  pub changed : new.parts ≡ slice_set old.parts slot after
  pub budget : after.application.budget ≡ before.application.budget
  pub fewer : after.application.steps ≤ before.application.steps
  pub most : before.application.steps ≤ after.application.steps + steps
  pub told : new.turns ≡ old.turns ++ one_turn slot (before.application.steps - after.application.steps)
  pub moment : new.moment ≡ old.moment

-- a turn of the part in a slot
pub record SettlesSlot {M : Type 0} (answer : M → Meaning) (steps slot : ℕ) (end : AppEnd) (old new : Applications M) : Type 0 where
  pub before : Part M
  pub after : Part M
  pub was : slice_get old.parts slot ≡ Some before
  pub changed : new.parts ≡ slice_set old.parts slot after
  pub turn : TakesTurn answer old.moment steps end (settling_begun before) after
  pub told : new.turns ≡ old.turns ++ one_turn slot (min steps (needs answer old.moment (settling_begun before)))
  pub moment : new.moment ≡ old.moment

-- settling begins in the part in a slot, where nothing is under way in it
pub record BeginsIn {M : Type 0} (slot : ℕ) (old new : Applications M) : Type 0 where
  pub before : Part M
  pub was : slice_get old.parts slot ≡ Some before
  pub changed : new ≡ record old { parts = slice_set old.parts slot (settling_begun before) }

-- ── events ──

-- Nothing is under way in a part, or it is still to begin its script, with all of its steps.
abbrev pub MayGet : {M : Type 0} → Part M → Type 0
MayGet part =
    (part.work ≡ Rests)
    ⊎ ((script : List ℕ) × (part.work ≡ task_begins (task.Begins script settling)) × (part.application.steps ≡ part.application.budget.total))

-- the part in a slot may get an event
abbrev pub MayGetIn : {M : Type 0} → ℕ → List (Part M) → Type 0
MayGetIn {M} slot parts = (part : Part M) → slice_get parts slot ≡ Some part → MayGet part

-- a part has as many steps left as before, or it was granted those of an event
abbrev pub MayBeGranted : {M : Type 0} → Application M → Application M → Type 0
MayBeGranted before after = (after.steps ≡ before.steps) ⊎ (after.steps ≡ granted before.budget before.steps)

-- Whatever comes of it, only the part in one slot has changed, and no turn is told. Its steps are as they were, or those of an event are granted.
pub record ChangesPart {M : Type 0} (slot : ℕ) (old new : Applications M) : Type 0 where
  pub before : Part M
  pub after : Part M
  pub was : slice_get old.parts slot ≡ Some before
  pub changed : new.parts ≡ slice_set old.parts slot after
  pub budget : after.application.budget ≡ before.application.budget
  pub steps : MayBeGranted before.application after.application
  pub turns : new.turns ≡ old.turns
  pub moment : new.moment ≡ old.moment

-- an event was given to the part in a slot
pub record DeliversIn {M : Type 0} (slot : ℕ) (event : LocalEvent) (old new : Applications M) : Type 0 where
  pub before : Part M
  pub was : slice_get old.parts slot ≡ Some before
  pub changed : new ≡ record old { parts = slice_set old.parts slot (record before { application = delivered event before.application }) }

-- ── slices ──

-- how a turn ends, by how the interpreter's slice does, where the main window is still there
abbrev pub end_of : SliceEnd → AppEnd
end_of (slice.Done code text) = Settled
end_of slice.More = More
end_of slice.Exhausted = Stopped

-- how it ends once nothing is under way, by what has become of the application
abbrev pub end_as : AppState → AppEnd
end_as Running = Settled
end_as Exhausted = Stopped
end_as Closed = Stopped

-- ── how far a runner has come ──

-- While it runs and rests, its steps aren't spent.
abbrev pub IsAsFar : Progress → AppState → RestToDo (Task Job) → Type 0
IsAsFar Resting Running rest = rest ≡ Idle
IsAsFar Resting Exhausted rest = (rest ≡ Idle) ⊎ (rest ≡ Spent)
IsAsFar Resting Closed rest = (rest ≡ Idle) ⊎ (rest ≡ Spent)
IsAsFar Going state rest = IsRunning rest
IsAsFar Lost state rest = rest ≡ Broken
