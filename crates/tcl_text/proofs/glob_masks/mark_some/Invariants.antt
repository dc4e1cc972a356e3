use Rattle.std.proofs.Common.{◌-◌, ◌<◌, ◌≤◌, get_or}
use denote.Text.{Utf8}
use denote.Shadow.{shadow}
use Rattle.std.specs.Str.{chars}
use Rattle.tcl_text.specs.GlobSteps.{IsHigh, Spans}
use Rattle.tcl_text.proofs.GlobMasks.{AllowsOr}
use Rattle.tcl_text.proofs.glob_masks.mark_some.Given as goal

abbrev pub invariant-loop-count : goal.invariant-loop-count
invariant-loop-count g l =
    (l.count ≤ l.most) × shadow (Utf8 l.rest) × Spans (chars l.pattern) (chars l.rest) l.count
    × AllowsOr (chars l.pattern) (λ letter. letter < g.row.LOW) (λ letter. letter) l.low l.any l.count
    × AllowsOr (chars l.pattern) (IsHigh g.row.LOW l.letters) (λ at. get_or l.letters at 0) l.high l.any l.count

abbrev pub decreases-loop-count : goal.decreases-loop-count
decreases-loop-count g l = l.most - l.count
