-- Steps. An application passes to what comes of it by the code's job, and to nothing else.
use Rattle.std.specs.Prelude.{◌≡◌, ◌↔◌, ℕ}
use Rattle.tk_app.specs.Application.{Application, next_due}
use Rattle.tk_app.specs.MomentsByJob.{settled}
use Rattle.tk_app.specs.Seen.{Meaning}
use Rattle.tk_host.specs.AloneByJob.{passed}
use Rattle.tk_host.specs.Passes.{Passes}

abbrev pub PassedPasses : {M : Type 0} (answer : M → Meaning) → Type 0
PassedPasses {M} answer = (last : ℕ) (application after : Application M)
    → Passes next_due (settled answer) last application after ↔ (passed answer last application ≡ after)
