use Rattle.std.proofs.Common.{◌<◌, length, get_or}
use denote.Text.{Utf8}
use denote.Shadow.{shadow}
use Rattle.std.specs.Str.{chars}
use Rattle.tcl_text.specs.GlobSteps.{IsHigh}
use Rattle.tcl_text.proofs.GlobMasks.{MembersTo}
use Rattle.tcl_text.proofs.glob_masks.mark_members.Given as goal

abbrev pub invariant-loop-first : goal.invariant-loop-first
invariant-loop-first g l =
    shadow (Utf8 l.rest) × MembersTo (λ letter. letter < g.row.LOW) (λ letter. letter) (chars l.class) (chars l.rest) l.fn.bit l.fn.low l.low
    × MembersTo (IsHigh g.row.LOW l.letters) (λ at. get_or l.letters at 0) (chars l.class) (chars l.rest) l.fn.bit l.fn.high l.high

abbrev pub decreases-loop-first : goal.decreases-loop-first
decreases-loop-first g l = length l.rest
