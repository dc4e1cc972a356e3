use Rattle.std.proofs.Common.{◌≡◌, length}
use Rattle.tcl_commands.specs.Links.{link_globals, global_words}
use Rattle.tcl_commands.proofs.links.global_words.Given as goal

abbrev pub invariant-loop-rest : goal.invariant-loop-rest
invariant-loop-rest l = record {
  others : link_globals l.frame l.rest l.scopes ≡ global_words l.frame l.words l.fn.scopes;
  levels : length l.scopes ≡ length l.fn.scopes;
}

abbrev pub decreases-loop-rest : goal.decreases-loop-rest
decreases-loop-rest l = length l.rest
