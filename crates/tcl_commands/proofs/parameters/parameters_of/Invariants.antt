use Rattle.std.proofs.Common.{◌≡◌, drop}
use Rattle.tcl_commands.specs.Ahead.{ahead}
use Rattle.tcl_commands.specs.Parameters.{parameters_of}
use Rattle.tcl_commands.proofs.parameters.parameters_of.Given as goal

abbrev pub invariant-loop-item : goal.invariant-loop-item
invariant-loop-item l = ahead l.parameters (parameters_of (drop l.item-index l.items)) ≡ parameters_of l.items
