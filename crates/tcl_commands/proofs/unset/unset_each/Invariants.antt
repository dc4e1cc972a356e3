use Rattle.std.proofs.Common.{◌≡◌, length}
use Rattle.tcl_commands.specs.Unset.{unset_each}
use Rattle.tcl_commands.proofs.unset.unset_each.Given as goal

abbrev pub invariant-loop-rest : goal.invariant-loop-rest
invariant-loop-rest l = record {
  others : unset_each l.quiet l.frame l.rest l.scopes ≡ unset_each l.quiet l.frame l.names l.initial.scopes;
  levels : length l.scopes ≡ length l.initial.scopes;
}

abbrev pub decreases-loop-rest : goal.decreases-loop-rest
decreases-loop-rest l = length l.rest
