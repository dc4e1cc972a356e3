-- Meaning. How an application comes to a moment, as a relation. *Alone* lets every moment come; here those alone come at which something is due.
use Rattle.std.specs.Prelude.{◌≡◌, ◌≤◌, ◌↔◌, ℕ, Option, Some}
use Rattle.tk_app.specs.Application.{Application, next_due}
use Rattle.tk_app.specs.Commands.{Update}
use Rattle.tk_app.specs.Dispatch.{Action}
use Rattle.tk_app.specs.Due.{IsPast}
use Rattle.tk_app.specs.Moments.{settled_by}
use Rattle.tk_app.specs.Seen.{Meaning}
use Rattle.tk_app.specs.Settle.{IsSettle, IsUpdate}
use Rattle.tk_app.specs.Sound.{RunsSound}
use Rattle.tk_host.specs.Alone.{passed_by}

-- `next_due` says when something is due next, and `settled` what is left once what is to be done at a moment is done. Where nothing is due by the last
-- moment, it is reached. Else what is due next is done at its moment, and it goes on from there.
pub data Passes {P : Type 0} (next_due : P → Option ℕ) (settled : ℕ → P → P) (last : ℕ) : P → P → Type 0 where
  reached : {part : P} → IsPast last (next_due part) → Passes next_due settled last part part
  goes_on : {part after : P} (due : ℕ) → next_due part ≡ Some due → due ≤ last → Passes next_due settled last (settled due part) after →
      Passes next_due settled last part after

-- An application whose windows are numbered as they were made passes to what *Alone* says, and to nothing else.
abbrev pub PassesBySettle : {M : Type 0} (answer : M → Meaning) → Type 0
PassesBySettle {M} answer = (update : Update) → IsUpdate update → (settle : Action) → IsSettle update settle
    → (last : ℕ) (application after : Application M) → RunsSound application
    → Passes next_due (settled_by answer settle) last application after ↔ (passed_by answer settle last application ≡ after)
