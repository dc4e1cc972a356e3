use Rattle.std.proofs.Common.{◌≤◌, ◌-◌, [], length, drop}
use Rattle.tcl_expr.specs.Reading.{AtOperand, tree_reading}
use Rattle.tcl_expr.proofs.ReadLemmas.{StillReads}
use Rattle.tcl_expr.proofs.reader.read_all.Given as goal

abbrev pub invariant-loop-at : goal.invariant-loop-at
invariant-loop-at l = record { within : l.at ≤ length l.source; reads : StillReads l.parser (drop l.at l.source) (tree_reading 0 AtOperand [] l.source) }

abbrev pub decreases-loop-at : goal.decreases-loop-at
decreases-loop-at l = length l.source - l.at
