use Rattle.std.proofs.Common.{◌↔◌, length}
use denote.Text.{Utf8}
use denote.Shadow.{shadow}
use Rattle.std.specs.Str.{chars}
use Rattle.tcl_text.specs.Glob.{GlobMatches}
use Rattle.tcl_text.specs.GlobSteps.{StopsAt}
use Rattle.tcl_text.proofs.glob.matches_whole.Given as goal

abbrev pub invariant-loop-star : goal.invariant-loop-star
invariant-loop-star l =
    shadow (Utf8 l.pattern) × shadow (Utf8 l.text) × StopsAt (chars l.pattern) (chars l.text)
    × (GlobMatches (chars l.pattern) (chars l.text) ↔ GlobMatches (chars l.fn.pattern) (chars l.fn.text))

abbrev pub decreases-loop-star : goal.decreases-loop-star
decreases-loop-star l = length l.pattern
