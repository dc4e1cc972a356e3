-- Steps. Scripts by acts and tasks take no steps back.
use Rattle.std.specs.Prelude.{ℕ}
use Rattle.tcl_interp.specs.Acts.{script_meaning}
use Rattle.tcl_interp.specs.LoopLaws.{TakesNoStepsBack}
use Rattle.tcl_interp.specs.Outside.{Outside}

-- whatever serves their outside commands
abbrev pub ScriptsTakeNoStepsBack : Type 0 → Type 0 → Type 0
ScriptsTakeNoStepsBack S K = (outside : Outside S K) (room : ℕ) → TakesNoStepsBack (script_meaning outside room)
