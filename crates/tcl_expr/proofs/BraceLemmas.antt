-- Lemmas on a text in braces.
use Rattle.std.proofs.Common.{ℕ, ◌+◌, List, ◌++◌, Result, Ok, Err}
use Rattle.tcl_expr.specs.declared.fault.ExprFault.{ExprFault}

-- what was read so far, and what the rest gives
abbrev pub joined : List ℕ → ℕ → Result (List ℕ × ℕ) ExprFault → Result (List ℕ × ℕ) ExprFault
joined bytes n (Ok found) = Ok (bytes ++ found.0, n + found.1)
joined bytes n (Err fault) = Err fault
