use Rattle.tcl_text.proofs.GlobMasks.{HighTo}
use Rattle.tcl_text.proofs.glob_masks.mark_high.Given as goal

abbrev pub invariant-loop-at : goal.invariant-loop-at
invariant-loop-at l = HighTo l.letters l.first l.last l.bit l.fn.high l.high l.at
