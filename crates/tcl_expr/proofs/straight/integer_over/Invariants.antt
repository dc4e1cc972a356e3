use Rattle.std.proofs.Common.{◌≡◌, ◌-◌, length, drop}
use Rattle.tcl_expr.specs.Straight.{straight}
use Rattle.tcl_expr.proofs.straight.integer_over.Given as goal

abbrev pub invariant-loop-place : goal.invariant-loop-place
invariant-loop-place g l = straight (g.N.Numbers.number l.numbers) 0 (drop l.place l.steps) l.stack ≡ straight (g.N.Numbers.number l.numbers) 0 l.steps l.fn.waiting

abbrev pub decreases-loop-place : goal.decreases-loop-place
decreases-loop-place g l = length l.steps - l.place
