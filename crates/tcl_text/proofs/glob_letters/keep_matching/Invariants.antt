use Rattle.std.proofs.Common.{◌≡◌, ◌-◌, ◌≤◌, drop}
use denote.Text.{Utf8}
use denote.Shadow.{shadow}
use Rattle.std.specs.Str.{chars}
use Rattle.tcl_text.specs.GlobSteps.{AreDeadIn, Spans}
use Rattle.tcl_text.proofs.glob_letters.keep_matching.Given as goal

abbrev pub invariant-loop-at : goal.invariant-loop-at
invariant-loop-at l =
    (l.at ≤ l.parts) × shadow (Utf8 l.rest) × shadow (Utf8 l.behind) × Spans (chars l.pattern) (chars l.rest) l.at
    × (chars l.behind ≡ drop l.at (chars l.text)) × AreDeadIn (chars l.pattern) (chars l.text) l.alive

abbrev pub decreases-loop-at : goal.decreases-loop-at
decreases-loop-at l = l.parts - l.at
