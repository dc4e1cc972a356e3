use Rattle.std.proofs.Common.{◌≡◌, length}
use Rattle.tcl_commands.specs.Arrays.{set_element}
use Rattle.tcl_commands.specs.Done.{each_done, pairs}
use Rattle.tcl_commands.proofs.arrays.set_each.Given as goal

abbrev pub invariant-loop-rest : goal.invariant-loop-rest
invariant-loop-rest l = record {
  others : each_done (set_element l.frame l.name) (pairs l.rest) l.scopes ≡ each_done (set_element l.frame l.name) (pairs l.items) l.initial.scopes;
  levels : length l.scopes ≡ length l.initial.scopes;
}

abbrev pub decreases-loop-rest : goal.decreases-loop-rest
decreases-loop-rest l = length l.rest
