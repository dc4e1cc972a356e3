use Rattle.std.proofs.Common.{◌-◌}
use Rattle.tcl_interp.specs.Quiet.{Leads}
use Rattle.tcl_interp.specs.Rests.{standing_of}
use Rattle.tcl_interp.proofs.onward.onward.Given as goal

abbrev pub invariant-ends : goal.invariant-ends
invariant-ends g l = Leads (standing_of l.fn.now l.fn.frames.items l.fn.scopes l.fn.context) (standing_of l.doing l.frames.items l.scopes l.context)

abbrev pub decreases-ends : goal.decreases-ends
decreases-ends g l = 3 - l.times
