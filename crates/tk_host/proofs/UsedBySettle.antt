-- The steps that an application takes, by whatever meets the equations of `update` and *Settle*.
use Rattle.std.proofs.Common.{◌≡◌, ℕ, ◌+◌, ◌*◌, ◌≤◌, List, [], ◌∷◌, length, refl, sym, ap, ◌∙◌, subst}
use Rattle.std.proofs.Math.Path.{fun_ext}
use Rattle.std.specs.Prelude.{sum_by}
use Rattle.std.specs.List.{enumerate_from}
use Rattle.tk_base.specs.declared.local_event.LocalEvent.{LocalEvent}
use Rattle.tk_app.specs.Application.{Application, fresh}
use Rattle.tk_app.specs.Commands.{Update}
use Rattle.tk_app.specs.Dispatch.{Action}
use Rattle.tk_app.specs.Moments.{delivered}
use Rattle.tk_app.specs.Seen.{Meaning}
use Rattle.tk_app.specs.Settle.{IsSettle, IsUpdate}
use Rattle.tk_app.specs.Spec.{Spec}
use Rattle.tk_host.specs.Alone.{after_events_by, alone_by, passed_by}
use Rattle.tk_host.specs.AloneByJob.{after_events, alone}
use Rattle.tk_host.specs.Used.{AllWithin, UsedAndLeft, before_event_by, fewer, given_to_all_by, granted_to_by, used_by, used_for_by}
use Rattle.tk_host.specs.UsedByJob.{before_event, granted_to, used, used_by_all, used_for}
use Rattle.tk_host.proofs.BySettle.{alone_by_settle, events_same, events_sound, passed_same}
use Rattle.tk_host.proofs.Used.{all_within_holds, used_and_left_holds}

module _ {M : Type 0} (answer : M → Meaning) (update : Update) (is_update : IsUpdate update) (settle : Action) (meets : IsSettle update settle) where
  came_same : (spec : Spec M) (routed : List LocalEvent) → after_events answer spec routed ≡ after_events_by answer update settle spec routed
  came_same spec routed = events_same answer update is_update settle meets spec routed

  before_same : (spec : Spec M) (event : LocalEvent) (earlier : List LocalEvent) → before_event answer spec event earlier ≡ before_event_by answer update settle spec event earlier
  before_same spec event earlier =
      passed_same answer update is_update settle meets event.moment (after_events answer spec earlier) (events_sound answer spec earlier)
      ∙ ap (passed_by answer settle event.moment) (came_same spec earlier)

  used_for_same : (spec : Spec M) (routed : List LocalEvent) → used_for answer spec routed ≡ used_for_by answer update settle spec routed
  used_for_same spec [] = ap (fewer (fresh spec)) (came_same spec [])
  used_for_same spec (event ∷ earlier) =
      ap
      (λ (n : ℕ). n + fewer (after_events answer spec earlier) (before_event answer spec event earlier)
      + fewer (delivered event (before_event answer spec event earlier)) (after_events answer spec (event ∷ earlier))) (used_for_same spec earlier)
      ∙ ap
      (λ (came : Application M). used_for_by answer update settle spec earlier + fewer came (before_event answer spec event earlier)
      + fewer (delivered event (before_event answer spec event earlier)) (after_events answer spec (event ∷ earlier))) (came_same spec earlier)
      ∙ ap
      (λ (before : Application M). used_for_by answer update settle spec earlier + fewer (after_events_by answer update settle spec earlier) before
      + fewer (delivered event before) (after_events answer spec (event ∷ earlier))) (before_same spec event earlier)
      ∙ ap
      (λ (after : Application M). used_for_by answer update settle spec earlier
      + fewer (after_events_by answer update settle spec earlier) (before_event_by answer update settle spec event earlier)
      + fewer (delivered event (before_event_by answer update settle spec event earlier)) after) (came_same spec (event ∷ earlier))

  used_same : (spec : Spec M) (routed : List LocalEvent) (last : ℕ) → used answer spec routed last ≡ used_by answer update settle spec routed last
  used_same spec routed last =
      ap (λ (n : ℕ). n + fewer (after_events answer spec routed) (alone answer spec routed last)) (used_for_same spec routed)
      ∙ ap (λ (came : Application M). used_for_by answer update settle spec routed + fewer came (alone answer spec routed last)) (came_same spec routed)
      ∙ ap (λ (whole : Application M). used_for_by answer update settle spec routed + fewer (after_events_by answer update settle spec routed) whole)
      (alone_by_settle answer update is_update settle meets spec routed last)

  granted_same : (spec : Spec M) (routed : List LocalEvent) → granted_to answer spec routed ≡ granted_to_by answer update settle spec routed
  granted_same spec [] = refl
  granted_same spec (event ∷ earlier) =
      ap (λ (n : ℕ). n + fewer (delivered event (before_event answer spec event earlier)) (before_event answer spec event earlier)) (granted_same spec earlier)
      ∙ ap (λ (before : Application M). granted_to_by answer update settle spec earlier + fewer (delivered event before) before) (before_same spec event earlier)

pub used_and_left : {M : Type 0} (answer : M → Meaning) → UsedAndLeft answer
used_and_left {M} answer update is_update settle meets spec routed last =
    let held = used_and_left_holds answer spec routed last in
    let given = granted_same answer update is_update settle meets spec routed in (
      ap (λ (n : ℕ). n + (alone_by answer update settle spec routed last).steps) (sym (used_same answer update is_update settle meets spec routed last))
          ∙ ap (λ (whole : Application M). used answer spec routed last + whole.steps) (sym (alone_by_settle answer update is_update settle meets spec routed last))
          ∙ held.0
          ∙ ap (λ (n : ℕ). spec.budget.total + n) given,
      subst (λ (n : ℕ). n ≤ length routed * spec.budget.refill) given held.1,
    )

pub all_within : {M : Type 0} (answer : M → Meaning) → AllWithin answer
all_within {M} answer update is_update settle meets specs routed last =
    subst (λ (n : ℕ). n ≤ given_to_all_by answer update settle specs routed)
    (ap (λ (each : ℕ × Spec M → ℕ). sum_by each (enumerate_from 0 specs)) (fun_ext (λ numbered. used_same answer update is_update settle meets numbered.1 (routed numbered.0) last)))
    (subst (λ (n : ℕ). used_by_all answer specs routed last ≤ n)
    (ap (λ (each : ℕ × Spec M → ℕ). sum_by each (enumerate_from 0 specs))
    (fun_ext (λ numbered. ap (λ (n : ℕ). numbered.1.budget.total + n) (granted_same answer update is_update settle meets numbered.1 (routed numbered.0)))))
    (all_within_holds answer specs routed last))
