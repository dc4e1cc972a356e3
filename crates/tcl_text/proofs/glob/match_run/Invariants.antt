use Rattle.std.proofs.Common.{◌<◌, ◌+◌, length}
use denote.Text.{Utf8}
use denote.Shadow.{shadow}
use Rattle.std.specs.Str.{chars}
use Rattle.tcl_text.specs.GlobSteps.{Runs}
use Rattle.tcl_text.proofs.glob.match_run.Given as goal

abbrev pub invariant-loop-left : goal.invariant-loop-left
invariant-loop-left l =
    shadow (Utf8 l.rest) × shadow (Utf8 l.left) × Runs (chars l.pattern) (chars l.text) (chars l.rest) (chars l.left)
    × (length l.rest < length l.pattern + 1)

abbrev pub decreases-loop-left : goal.decreases-loop-left
decreases-loop-left l = length l.rest
