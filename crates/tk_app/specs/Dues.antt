-- Meaning. What is due of an application, and what settling makes of that: `settled` and `started` by the code's jobs (steps), which are `settled_by` and
-- `started_by` by whatever meets the equations, where windows are numbered as they were made (law `comes_by_settle`).
use Rattle.std.specs.Prelude.{◌≡◌, ℕ, ◌<◌, ◌≤◌, List, Some}
use Rattle.tk_app.specs.Due.{IsPast}
use Rattle.tk_app.specs.declared.state.AppState.TheVariants.{Running}
use Rattle.tk_app.specs.Application.{Application, next_due}
use Rattle.tk_app.specs.MomentsByJob.{settled, started}
use Rattle.tk_app.specs.Seen.{Meaning}

module _ {M : Type 0} (answer : M → Meaning) where
  -- where something is due by a moment, settling then takes a step, or the application stops
  abbrev pub DueTakesAStep : Type 0
  DueTakesAStep = (moment due : ℕ) (application : Application M) → next_due application ≡ Some due → due ≤ moment
      → (settled answer moment application).state ≡ Running → (settled answer moment application).steps < application.steps

  -- once it has settled, nothing is due of it by the moment
  abbrev pub SettledIsPast : Type 0
  SettledIsPast = (moment : ℕ) (application : Application M) → IsPast moment (next_due (settled answer moment application))

  -- nor is it once it has begun
  abbrev pub StartedIsPast : Type 0
  StartedIsPast = (moment : ℕ) (script : List ℕ) (application : Application M) → IsPast moment (next_due (started answer moment script application))
