use Rattle.tcl_interp.specs.Quiet.{Leads}
use Rattle.tcl_interp.specs.Rests.{moved_of, standing_of}
use Rattle.tcl_interp.proofs.Weights.{weight}
use Rattle.tcl_interp.proofs.moves.quiet.Given as goal

abbrev pub invariant-loop-next : goal.invariant-loop-next
invariant-loop-next g l = Leads (standing_of l.fn.now l.fn.frames.items l.fn.scopes l.fn.context) (standing_of l.doing l.frames.items l.scopes l.context)

abbrev pub decreases-loop-next : goal.decreases-loop-next
decreases-loop-next g l = weight (moved_of l.doing l.frames.items)
