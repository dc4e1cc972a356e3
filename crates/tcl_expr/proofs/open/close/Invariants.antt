use Rattle.std.proofs.Common.{length}
use Rattle.tcl_expr.proofs.CloseLemmas.{StillCloses}
use Rattle.tcl_expr.proofs.open.close.Given as goal

-- what is left to close gives what is to be closed
abbrev pub invariant-closing : goal.invariant-closing
invariant-closing l = StillCloses l.level l.initial.opened.items l.initial.steps.items l.opened.items l.steps.items

abbrev pub decreases-closing : goal.decreases-closing
decreases-closing l = length l.opened.items
