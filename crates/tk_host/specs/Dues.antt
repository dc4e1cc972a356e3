-- Steps. From due moment to due moment, and how many there are at most.
use Rattle.std.specs.Prelude.{◌≡◌, ℕ, suc, List}
use Rattle.tk_app.specs.Passing.{brought}
use Rattle.tk_app.specs.Together.{turns_to}
use Rattle.tk_app.specs.declared.state.AppState.{AppState}
use Rattle.tk_app.specs.declared.state.AppState.TheVariants.{Running, Exhausted, Closed}
use Rattle.tk_app.specs.Application.{Application, next_due}
use Rattle.tk_app.specs.MomentsByJob.{settled}
use Rattle.tk_app.specs.Seen.{Meaning}
use Rattle.tk_host.specs.AloneByJob.{passed}
use Rattle.tk_host.specs.Turns.{steps_left, turns_on_the_way}

-- How many moments an application can still have at most: each takes a step, or is the last.
abbrev pub weight_as : AppState → ℕ → ℕ
weight_as Running steps = suc steps
weight_as Exhausted steps = 0
weight_as Closed steps = 0

abbrev pub weight : {M : Type 0} → Application M → ℕ
weight application = weight_as application.state application.steps

module _ {M : Type 0} (answer : M → Meaning) where
  -- what is due of an application's own up to a last moment has been done, each at its moment, the earliest first
  abbrev pub brought_by_dues : ℕ → Application M → Application M
  brought_by_dues last application = brought next_due (settled answer) weight last application

  -- The moments that come, one after another, are those at which something is due, the earliest first: in the others nothing is done.
  abbrev pub PassedByDues : Type 0
  PassedByDues = (last : ℕ) (application : Application M) → passed answer last application ≡ brought_by_dues last application

  -- So are the turns on the way: in a moment at which nothing is due nobody has one.
  abbrev pub TurnsByDues : Type 0
  TurnsByDues = (slice last : ℕ) (apps : List (Application M))
      → turns_on_the_way answer slice last apps ≡ turns_to next_due (settled answer) weight steps_left slice last apps
