-- Steps. What becomes of an application at a moment, where `update` and *Settle* are what the code's jobs come to.
use Rattle.std.specs.Prelude.{ℕ, List}
use Rattle.tk_app.specs.Application.{Application}
use Rattle.tk_app.specs.Moments.{settled_by, started_by}
use Rattle.tk_app.specs.Seen.{Meaning}
use Rattle.tk_app.specs.SettleJob.{settle_meaning, update_meaning}

module _ {M : Type 0} (answer : M → Meaning) where
  abbrev pub started : ℕ → List ℕ → Application M → Application M
  started = started_by answer update_meaning settle_meaning

  abbrev pub settled : ℕ → Application M → Application M
  settled = settled_by answer settle_meaning
