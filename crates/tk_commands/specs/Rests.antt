-- Steps. When nothing is left to do at a moment.
use Rattle.std.specs.Prelude.{◌≡◌, ℕ, Bool, true, false, ◌&&◌, ◌||◌, not, List, [], ◌∷◌, is_some}
use Rattle.tcl_vars.specs.Store.{Store}
use Rattle.tcl_control.specs.declared.code.Code.{Code}
use Rattle.tcl_interp.specs.Evaluation.{State, Ended}
use Rattle.tk_after.specs.Timers.{idle_ids}
use Rattle.tk_panel.specs.declared.job.Home.{Home}
use Rattle.tk_panel.specs.declared.job.Home.TheVariants.{Settle}
use Rattle.tk_panel.specs.declared.job.Job.{Job}
use Rattle.tk_panel.specs.declared.job.Rest.{Rest}
use Rattle.tk_panel.specs.declared.job.Rest.TheVariants.{Ends, Destroys, Rounds}
use Rattle.tk_panel.specs.Next.{next}
use Rattle.tk_panel.specs.Panel.{Panel}
use Rattle.tk_panel.specs.Settle.{is_closed, is_due}
use Rattle.tk_commands.specs.Course.{settling}
use Rattle.tk_commands.specs.Laws.{meaning}

abbrev pub is_empty : {X : Type 0} → List X → Bool
is_empty [] = true
is_empty (x ∷ xs) = false

-- there is no main window; or no event waits, no timer is due, and no idle script waits
abbrev pub has_settled : Panel → Bool
has_settled panel = is_closed panel || (is_empty panel.queue && (not (is_due panel.moment panel.timers.entries) && is_empty (idle_ids panel.timers.entries)))

-- a job that settles behind what is under way
abbrev pub home_settles : Home → Bool
home_settles Settle = true
home_settles _ = false

abbrev pub rest_settles : Rest → Bool
rest_settles Ends = false
rest_settles (Destroys window doomed paths) = false
rest_settles (Rounds ids home) = home_settles home

abbrev pub settles_last : Job → Bool
settles_last job = rest_settles job.rest

-- A settle that has ended has nothing left to do.
abbrev pub Rests : Type 0
Rests = (room : ℕ) (job : Job) (state after : State Panel) (code : Code) (text : List ℕ)
    → settles_last job ≡ true → meaning room job state ≡ Ended after code text → has_settled after.shows ≡ true

-- While a timer is due and there is a main window, something comes next.
abbrev pub DueComes : Type 0
DueComes = (store : Store) (panel : Panel) → is_closed panel ≡ false → is_due panel.moment panel.timers.entries ≡ true
    → is_some (next (settling Settle) store panel).1 ≡ true
