-- Steps. *Alone*, and how an application comes to a moment, are by the code's jobs what they are by the equations of `update` and *Settle*.
use Rattle.std.specs.Prelude.{◌≡◌, ℕ, List}
use Rattle.tk_base.specs.declared.local_event.LocalEvent.{LocalEvent}
use Rattle.tk_app.specs.Application.{Application}
use Rattle.tk_app.specs.Commands.{Update}
use Rattle.tk_app.specs.Dispatch.{Action}
use Rattle.tk_app.specs.Seen.{Meaning}
use Rattle.tk_app.specs.Settle.{IsSettle, IsUpdate}
use Rattle.tk_app.specs.Sound.{RunsSound}
use Rattle.tk_app.specs.Spec.{Spec}
use Rattle.tk_host.specs.Alone.{alone_by, passed_by}
use Rattle.tk_host.specs.AloneByJob.{alone, passed}

module _ {M : Type 0} (answer : M → Meaning) where
  -- An application by itself comes to the same by anything that meets the equations of `update` and *Settle*: the first item that exists, and that again.
  abbrev pub AloneBySettle : Type 0
  AloneBySettle = (update : Update) → IsUpdate update → (settle : Action) → IsSettle update settle → (spec : Spec M) (routed : List LocalEvent) (last : ℕ)
      → alone answer spec routed last ≡ alone_by answer update settle spec routed last

  -- So it does from moment to moment, whatever it has come to: it has windows that are numbered as they were made, as *Alone* keeps them.
  abbrev pub PassedBySettle : Type 0
  PassedBySettle = (update : Update) → IsUpdate update → (settle : Action) → IsSettle update settle → (last : ℕ) (application : Application M) → RunsSound application
      → passed answer last application ≡ passed_by answer settle last application
