use Rattle.std.proofs.Common.{◌≡◌, ◌+◌, drop}
use Rattle.tcl_expr.specs.Counts.{digits}
use Rattle.tcl_expr.proofs.tokens.digits.Given as goal

abbrev pub invariant-loop-count : goal.invariant-loop-count
invariant-loop-count l = l.count + digits l.base (drop l.count l.text) ≡ digits l.base l.text
