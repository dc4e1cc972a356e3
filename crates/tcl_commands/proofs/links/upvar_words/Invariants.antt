use Rattle.std.proofs.Common.{◌≡◌, length}
use Rattle.tcl_commands.specs.Links.{link_pairs, upvar_words}
use Rattle.tcl_commands.proofs.links.upvar_words.Given as goal

abbrev pub invariant-loop-rest : goal.invariant-loop-rest
invariant-loop-rest l = record {
  others : link_pairs l.frame l.to_frame l.rest l.scopes ≡ upvar_words l.frame l.to_frame l.words l.fn.scopes;
  levels : length l.scopes ≡ length l.fn.scopes;
}

abbrev pub decreases-loop-rest : goal.decreases-loop-rest
decreases-loop-rest l = length l.rest
