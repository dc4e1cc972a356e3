use Rattle.std.proofs.Common.{◌<◌, length}
use denote.Text.{Utf8}
use denote.Shadow.{shadow}
use Rattle.std.specs.Str.{chars}
use Rattle.tcl_text.specs.GlobSteps.{IsBehindDead}
use Rattle.tcl_text.proofs.glob.walk_run.Given as goal

abbrev pub invariant-loop-from : goal.invariant-loop-from
invariant-loop-from l = (l.tried < 8) × shadow (Utf8 l.from) × IsBehindDead (chars l.pattern) (chars l.text) (chars l.from)

abbrev pub decreases-loop-from : goal.decreases-loop-from
decreases-loop-from l = length l.from
