use Rattle.std.proofs.Common.{◌-◌, ◌≤◌}
use denote.Text.{Utf8}
use denote.Shadow.{shadow}
use Rattle.std.specs.Str.{chars}
use Rattle.tcl_text.specs.GlobSteps.{AreDead, Spans}
use Rattle.tcl_text.proofs.glob_places.keep_matching.Given as goal

abbrev pub invariant-loop-at : goal.invariant-loop-at
invariant-loop-at l = (l.at ≤ l.parts) × shadow (Utf8 l.rest) × Spans (chars l.pattern) (chars l.rest) l.at × AreDead (chars l.pattern) l.window l.alive

abbrev pub decreases-loop-at : goal.decreases-loop-at
decreases-loop-at l = l.parts - l.at
