-- One application: doing what is due next takes a step or is the last.
use Rattle.std.proofs.Common.{◌≡◌, ℕ, suc, ◌<◌, Some, refl, sym, subst, arith}
use Rattle.std.proofs.lemmas.Option.{none-some}
use Rattle.tk_app.specs.declared.state.AppState.{AppState}
use Rattle.tk_app.specs.declared.state.AppState.TheVariants.{Running, Exhausted, Closed}
use Rattle.tk_app.specs.Application.{Application, next_due, next_due_as}
use Rattle.tk_app.specs.MomentsByJob.{settled}
use Rattle.tk_app.specs.Seen.{Meaning}
use Rattle.tk_app.proofs.Settled.{due_takes_a_step}
use Rattle.tk_host.specs.Dues.{weight_as, weight}

module _ {M : Type 0} (answer : M → Meaning) where
  -- something is due of an application only while it runs
  due_runs : (application : Application M) (due : ℕ) (state : AppState) → next_due_as state application.timers ≡ Some due → state ≡ Running
  due_runs application due Running next = refl
  due_runs application due Exhausted next = absurd (none-some due next)
  due_runs application due Closed next = absurd (none-some due next)

  -- what weighs less where a step was taken or it no longer runs
  lighter_as : (state : AppState) (steps before : ℕ) → (state ≡ Running → steps < before) → weight_as state steps < suc before
  lighter_as Running steps before less = omega (arith, less refl)
  lighter_as Exhausted steps before less = omega arith
  lighter_as Closed steps before less = omega arith

  -- what is due next takes a step or is the last
  pub settled_lighter : (application : Application M) (due : ℕ) → next_due application ≡ Some due → weight (settled answer due application) < weight application
  settled_lighter application due next =
      let after = settled answer due application in
      subst (λ s. weight after < weight_as s application.steps) (sym (due_runs application due application.state next))
      (lighter_as after.state after.steps application.steps (due_takes_a_step answer due due application next (omega arith)))
