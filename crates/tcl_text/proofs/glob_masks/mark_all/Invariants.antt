use Rattle.tcl_text.proofs.GlobMasks.{AllTo}
use Rattle.tcl_text.proofs.glob_masks.mark_all.Given as goal

abbrev pub invariant-loop-at : goal.invariant-loop-at
invariant-loop-at l = AllTo l.bits l.fn.masks l.masks l.at
