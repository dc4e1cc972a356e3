use Rattle.std.proofs.Common.{◌≡◌, ◌+◌, drop}
use Rattle.tcl_words.specs.Kinds.{name_bytes}
use Rattle.tcl_expr.proofs.tokens.name_bytes.Given as goal

abbrev pub invariant-loop-count : goal.invariant-loop-count
invariant-loop-count l = l.count + name_bytes (drop l.count l.text) ≡ name_bytes l.text
