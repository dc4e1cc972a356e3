-- Meaning. What can be looked at of the applications of a host beside their sections. `held_after` is by the code's jobs, as `Held` says: of an application by
-- itself whatever meets the equations gives the same (law `alone_by_settle`).
use Rattle.std.specs.Prelude.{ℕ, List, Option, None}
use Rattle.tk_app.specs.Application.{Application}
use Rattle.tk_app.specs.Inspection.{seen_in}
use Rattle.tk_app.specs.Seen.{Meaning}
use Rattle.tk_host.specs.declared.phase.Phase.{Phase}
use Rattle.tk_host.specs.declared.phase.Phase.TheVariants.{Adding, Reached, Finished, Lost}
use Rattle.tk_host.specs.Held.{Call, HostState, held_after}

-- nothing is told once memory was refused while applications ran
abbrev pub told_in : {T : Type 0} → Phase → Option T → Option T
told_in Adding seen = seen
told_in (Reached moment) seen = seen
told_in (Finished moment) seen = seen
told_in Lost seen = None

module _ {M T : Type 0} where
  -- what is looked at, of the application in a slot
  abbrev pub seen : (Application M → Option T) → ℕ → HostState M → Option T
  seen look slot held = told_in held.phase (seen_in look slot held.parts)

  -- and after these calls, of the application as it is by itself
  abbrev pub seen_after : (M → Meaning) → (Application M → Option T) → ℕ → List (Call M) → Option T
  seen_after answer look slot calls = seen_in look slot (held_after answer calls).parts
