-- Steps. The steps that an application takes and is granted, where `update` and *Settle* are what the code's jobs come to.
use Rattle.std.specs.Prelude.{◌≡◌, ℕ, ◌+◌, ◌*◌, ◌≤◌, List, length}
use Rattle.tk_base.specs.declared.local_event.LocalEvent.{LocalEvent}
use Rattle.tk_app.specs.Application.{Application}
use Rattle.tk_app.specs.Seen.{Meaning}
use Rattle.tk_app.specs.SettleJob.{settle_meaning, update_meaning}
use Rattle.tk_app.specs.Spec.{Spec}
use Rattle.tk_host.specs.AloneByJob.{alone}
use Rattle.tk_host.specs.Used.{before_event_by, given_to_all_by, granted_to_by, used_by, used_by_all_by, used_for_by}

module _ {M : Type 0} (answer : M → Meaning) where
  abbrev pub before_event : Spec M → LocalEvent → List LocalEvent → Application M
  before_event = before_event_by answer update_meaning settle_meaning

  abbrev pub used_for : Spec M → List LocalEvent → ℕ
  used_for = used_for_by answer update_meaning settle_meaning

  abbrev pub used : Spec M → List LocalEvent → ℕ → ℕ
  used = used_by answer update_meaning settle_meaning

  abbrev pub granted_to : Spec M → List LocalEvent → ℕ
  granted_to = granted_to_by answer update_meaning settle_meaning

  abbrev pub used_by_all : List (Spec M) → (ℕ → List LocalEvent) → ℕ → ℕ
  used_by_all = used_by_all_by answer update_meaning settle_meaning

  abbrev pub given_to_all : List (Spec M) → (ℕ → List LocalEvent) → ℕ
  given_to_all = given_to_all_by answer update_meaning settle_meaning

  -- the steps taken and those left are the total and those granted
  abbrev pub UsedAndLeftByJob : Type 0
  UsedAndLeftByJob =
      (spec : Spec M) (routed : List LocalEvent) (last : ℕ)
      → (used spec routed last + (alone answer spec routed last).steps ≡ spec.budget.total + granted_to spec routed)
      × (granted_to spec routed ≤ length routed * spec.budget.refill)

  -- all applications together take at most the sum of their totals and of what they are granted
  abbrev pub AllWithinByJob : Type 0
  AllWithinByJob = (specs : List (Spec M)) (routed : ℕ → List LocalEvent) (last : ℕ) → used_by_all specs routed last ≤ given_to_all specs routed
