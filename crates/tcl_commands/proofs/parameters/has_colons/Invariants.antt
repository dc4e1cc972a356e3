use Rattle.std.proofs.Common.{◌≡◌, length}
use Rattle.tcl_commands.specs.Parameters.{has_colons}
use Rattle.tcl_commands.proofs.parameters.has_colons.Given as goal

abbrev pub invariant-bytes : goal.invariant-bytes
invariant-bytes l = has_colons l.rest ≡ has_colons l.name

abbrev pub decreases-bytes : goal.decreases-bytes
decreases-bytes l = length l.rest
