use Rattle.std.proofs.Common.{◌≡◌, is_some}
use Rattle.tcl_expr.specs.Resuming.{is_waiting}
use Rattle.test_tcl.proofs.expressions.told.Given as goal

-- a text is given where one was asked for
abbrev pub invariant-asking : goal.invariant-asking
invariant-asking l = is_some l.given ≡ is_waiting l.eval.state
