-- The place that is reached leads to where the first one does.
use Rattle.tcl_vars.specs.Shown.{shown}
use Rattle.tcl_vars.specs.Way.{IsOnWay}
use Rattle.tcl_vars.proofs.scopes.Scopes.lead.Given as goal

abbrev pub invariant-loop-frame : goal.invariant-loop-frame
invariant-loop-frame l = IsOnWay l.self (shown l.initial.place) (shown l.place)

abbrev pub decreases-loop-frame : goal.decreases-loop-frame
decreases-loop-frame l = l.place.frame
