-- An application by itself, by the equations of `update` and *Settle*.
use Rattle.std.proofs.Common.{◌≡◌, ℕ, zero, suc, Bool, true, false, Option, Some, None, List, [], ◌∷◌, refl, ap, ◌∙◌}
use Rattle.std.specs.Prelude.{nat_eq, if◌then◌else◌}
use Rattle.tk_base.specs.declared.local_event.LocalEvent.{LocalEvent}
use Rattle.tk_app.specs.Application.{Application, fresh, next_due}
use Rattle.tk_app.specs.Commands.{Update}
use Rattle.tk_app.specs.Dispatch.{Action}
use Rattle.tk_app.specs.Moments.{delivered, settled_by}
use Rattle.tk_app.specs.MomentsByJob.{settled}
use Rattle.tk_app.specs.Seen.{Meaning}
use Rattle.tk_app.specs.Settle.{IsSettle, IsUpdate}
use Rattle.tk_app.specs.Sound.{RunsSound}
use Rattle.tk_app.specs.Spec.{Spec}
use Rattle.tk_app.specs.Due.{settled_if}
use Rattle.tk_app.proofs.BySettle.{by_settle}
use Rattle.tk_app.proofs.SoundParts.{stays_sound}
use Rattle.tk_host.specs.Alone.{after_event_by, after_events_by, at_moment_by, passed_by}
use Rattle.tk_host.specs.AloneByJob.{after_events, at_moment, passed}
use Rattle.tk_host.specs.BySettle.{AloneBySettle, PassedBySettle}

module _ {M : Type 0} (answer : M → Meaning) where
  -- ── windows are numbered as they were made ──

  at_sound : (moment : ℕ) (application : Application M) → RunsSound application → RunsSound (at_moment answer moment application)
  at_sound moment application sound = by (next_due application)
    where
      by_test : (b : Bool) → RunsSound (if b then settled answer moment application else application)
      by_test true = (stays_sound answer).settled moment application sound
      by_test false = sound

      by : (o : Option ℕ) → RunsSound (settled_if next_due (settled answer) o moment application)
      by None = sound
      by (Some due) = by_test (nat_eq due moment)

  passed_sound : (last : ℕ) (application : Application M) → RunsSound application → RunsSound (passed answer last application)
  unfolding passed_by
  passed_sound zero application sound = at_sound 0 application sound
  passed_sound (suc last) application sound = at_sound (suc last) (passed answer last application) (passed_sound last application sound)

  given_sound : (event : LocalEvent) (application : Application M) → RunsSound application → RunsSound (delivered event (passed answer event.moment application))
  given_sound event application sound = (stays_sound answer).delivered event (passed answer event.moment application) (passed_sound event.moment application sound)

  pub events_sound : (spec : Spec M) (routed : List LocalEvent) → RunsSound (after_events answer spec routed)
  events_sound spec [] = (stays_sound answer).started 0 spec.script (fresh spec) ((stays_sound answer).fresh spec refl)
  events_sound spec (event ∷ earlier) =
      let before = passed answer event.moment (after_events answer spec earlier) in
      (stays_sound answer).settled event.moment (delivered event before) (given_sound event (after_events answer spec earlier) (events_sound spec earlier))

  -- ── the same ──

  module _ (update : Update) (is_update : IsUpdate update) (settle : Action) (meets : IsSettle update settle) where
    at_same : (moment : ℕ) (application : Application M) → RunsSound application → at_moment answer moment application ≡ at_moment_by answer settle moment application
    at_same moment application sound = by (next_due application)
      where
        by_test : (b : Bool) → (if b then settled answer moment application else application) ≡ (if b then settled_by answer settle moment application else application)
        by_test true = (by_settle answer).settled update is_update settle meets moment application sound
        by_test false = refl

        by : (o : Option ℕ) → settled_if next_due (settled answer) o moment application ≡ settled_if next_due (settled_by answer settle) o moment application
        by None = refl
        by (Some due) = by_test (nat_eq due moment)

    pub passed_same : (last : ℕ) (application : Application M) → RunsSound application → passed answer last application ≡ passed_by answer settle last application
    unfolding passed_by
    passed_same zero application sound = at_same 0 application sound
    passed_same (suc last) application sound =
        at_same (suc last) (passed answer last application) (passed_sound last application sound) ∙ ap (at_moment_by answer settle (suc last)) (passed_same last application sound)

    pub events_same : (spec : Spec M) (routed : List LocalEvent) → after_events answer spec routed ≡ after_events_by answer update settle spec routed
    events_same spec [] = (by_settle answer).started update is_update settle meets 0 spec.script (fresh spec) ((stays_sound answer).fresh spec refl)
    events_same spec (event ∷ earlier) =
        let before = after_events answer spec earlier in
        (by_settle answer).settled update is_update settle meets event.moment (delivered event (passed answer event.moment before)) (given_sound event before (events_sound spec earlier))
        ∙ ap (after_event_by answer settle event) (passed_same event.moment before (events_sound spec earlier))
        ∙ ap (λ application. after_event_by answer settle event (passed_by answer settle event.moment application)) (events_same spec earlier)

  pub alone_by_settle : AloneBySettle answer
  alone_by_settle update is_update settle meets spec routed last =
      passed_same update is_update settle meets last (after_events answer spec routed) (events_sound spec routed) ∙ ap (passed_by answer settle last) (events_same update is_update settle meets spec routed)

  pub passed_by_settle : PassedBySettle answer
  passed_by_settle update is_update settle meets last application sound = passed_same update is_update settle meets last application sound
