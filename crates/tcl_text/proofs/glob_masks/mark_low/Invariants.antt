use Rattle.std.proofs.Common.{◌<◌, ◌≤◌}
use Rattle.tcl_text.proofs.GlobMasks.{MarksTo}
use Rattle.tcl_text.proofs.glob_masks.mark_low.Given as goal

abbrev pub invariant-loop-letter : goal.invariant-loop-letter
invariant-loop-letter l = (l.letter ≤ l.end) × (l.letter < l.end → l.fn.first ≤ l.letter) × MarksTo l.fn.first l.fn.bit l.fn.low l.low l.letter
