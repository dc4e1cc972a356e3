-- Steps. *Alone* where `update` and *Settle* are what the code's jobs come to. By anything else that meets their equations all of this is the same
-- (`AloneBySettle`, `PassedBySettle`).
use Rattle.std.specs.Prelude.{ℕ, List}
use Rattle.tk_base.specs.declared.local_event.LocalEvent.{LocalEvent}
use Rattle.tk_app.specs.Application.{Application}
use Rattle.tk_app.specs.Seen.{Meaning}
use Rattle.tk_app.specs.SettleJob.{settle_meaning, update_meaning}
use Rattle.tk_app.specs.Spec.{Spec}
use Rattle.tk_host.specs.Alone.{after_event_by, after_events_by, alone_by, at_moment_by, passed_by}

module _ {M : Type 0} (answer : M → Meaning) where
  abbrev pub at_moment : ℕ → Application M → Application M
  at_moment = at_moment_by answer settle_meaning

  abbrev pub passed : ℕ → Application M → Application M
  passed = passed_by answer settle_meaning

  abbrev pub after_event : LocalEvent → Application M → Application M
  after_event = after_event_by answer settle_meaning

  abbrev pub after_events : Spec M → List LocalEvent → Application M
  after_events = after_events_by answer update_meaning settle_meaning

  abbrev pub alone : Spec M → List LocalEvent → ℕ → Application M
  alone = alone_by answer update_meaning settle_meaning
