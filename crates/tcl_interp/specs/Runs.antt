-- Steps. How far a slice comes.
use Rattle.std.specs.Prelude.{◌≡◌}
use Rattle.tcl_interp.specs.declared.machine.Now.{Now}
use Rattle.tcl_interp.specs.declared.slices.Ran.{Ran}
use Rattle.tcl_interp.specs.declared.slices.Ran.TheVariants as ran
use Rattle.tcl_interp.specs.Evaluation.{State, Outcome, Ended, OutOfSteps}

module _ {K : Type 0} where
  -- The outcome is reached, in this state, or it is that of what is to be done next.
  abbrev pub Comes : {S : Type 0} → Ran K → Outcome S → State S → (Now K → Outcome S) → Type 0
  Comes (ran.Ended code text) outcome state next = outcome ≡ Ended state code text
  Comes (ran.Paused now) outcome state next = outcome ≡ next now
  Comes ran.Spent outcome state next = (outcome ≡ OutOfSteps state) × (state.steps ≡ 0)

  abbrev pub IfPaused : Ran K → Type 0 → Type 0
  IfPaused (ran.Ended code text) fact = Unit {0}
  IfPaused (ran.Paused now) fact = fact
  IfPaused ran.Spent fact = Unit {0}
