use Rattle.std.proofs.Common.{◌≡◌}
use Rattle.tcl_expr.specs.Dues.{with_steps, dues_steps, dues_weight}
use Rattle.tcl_expr.proofs.substitution.write_dues.Given as goal

-- what was written and what is due are together what was to be written
abbrev pub invariant-loop-due : goal.invariant-loop-due
invariant-loop-due l = with_steps l.fn.steps.items (dues_steps l.fn.dues.items) ≡ with_steps l.steps.items (dues_steps l.dues.items)

abbrev pub decreases-loop-due : goal.decreases-loop-due
decreases-loop-due l = dues_weight l.dues.items
