-- An application passes from due moment to due moment, by the equations of `update` and *Settle*.
use Rattle.std.proofs.Common.{◌≡◌, ℕ, sym, ◌∙◌, subst}
use Rattle.tk_app.specs.Application.{Application, next_due}
use Rattle.tk_app.specs.Commands.{Update}
use Rattle.tk_app.specs.Dispatch.{Action}
use Rattle.tk_app.specs.Moments.{settled_by}
use Rattle.tk_app.specs.MomentsByJob.{settled}
use Rattle.tk_app.specs.Seen.{Meaning}
use Rattle.tk_app.specs.Settle.{IsSettle, IsUpdate}
use Rattle.tk_app.specs.Sound.{RunsSound}
use Rattle.tk_app.proofs.BySettle.{by_settle}
use Rattle.tk_app.proofs.SoundParts.{stays_sound}
use Rattle.tk_host.specs.Passes.{Passes, PassesBySettle}
use Rattle.tk_host.specs.Passes.Passes.{goes_on, reached}
use Rattle.tk_host.proofs.BySettle.{passed_by_settle}
use Rattle.tk_host.proofs.Relation.{passed_passes}

module _ {M : Type 0} (answer : M → Meaning) where
  module _ (update : Update) (is_update : IsUpdate update) (settle : Action) (meets : IsSettle update settle) where
    same : (moment : ℕ) (application : Application M) → RunsSound application → settled answer moment application ≡ settled_by answer settle moment application
    same moment application sound = (by_settle answer).settled update is_update settle meets moment application sound

    to_job : (last : ℕ) (part after : Application M) → RunsSound part → Passes next_due (settled_by answer settle) last part after
        → Passes next_due (settled answer) last part after
    to_job last part after sound (reached past) = reached past
    to_job last part after sound (goes_on due next within rest) =
        let next_sound : RunsSound (settled_by answer settle due part) =
        subst (λ (next : Application M). RunsSound next) (same due part sound) ((stays_sound answer).settled due part sound) in
        goes_on due next within
        (subst (λ (next : Application M). Passes next_due (settled answer) last next after) (sym (same due part sound))
        (to_job last (settled_by answer settle due part) after next_sound rest))

    from_job : (last : ℕ) (part after : Application M) → RunsSound part → Passes next_due (settled answer) last part after
        → Passes next_due (settled_by answer settle) last part after
    from_job last part after sound (reached past) = reached past
    from_job last part after sound (goes_on due next within rest) =
        goes_on due next within
        (subst (λ (next : Application M). Passes next_due (settled_by answer settle) last next after) (same due part sound)
        (from_job last (settled answer due part) after ((stays_sound answer).settled due part sound) rest))

  pub passes_by_settle : PassesBySettle answer
  passes_by_settle update is_update settle meets last application after sound =
      let one = passed_by_settle answer update is_update settle meets last application sound in (
        (λ there. sym one ∙ (passed_passes answer last application after).0 (to_job update is_update settle meets last application after sound there)),
        (λ same. from_job update is_update settle meets last application after sound ((passed_passes answer last application after).1 (one ∙ same))),
      )
