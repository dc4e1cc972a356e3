use Rattle.std.proofs.Common.{length}
use Rattle.tk_inputs.proofs.pointer.+end_of.Given as goal

abbrev pub decreases-end_of : goal.decreases-end_of
decreases-end_of l = length l.way.now
