use Rattle.std.proofs.Common.{length}
use Rattle.tk_inputs.proofs.borders.+crossings.Given as goal

abbrev pub decreases-crossings : goal.decreases-crossings
decreases-crossings l = length l.from.now
