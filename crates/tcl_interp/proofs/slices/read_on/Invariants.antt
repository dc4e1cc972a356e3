use Rattle.std.proofs.Common.{◌≡◌}
use Rattle.tcl_interp.specs.Quiet.{Leads}
use Rattle.tcl_interp.specs.Rests.{moved_of, standing_of}
use Rattle.tcl_interp.proofs.Weights.{weight}
use Rattle.tcl_interp.proofs.slices.read_on.Given as goal

abbrev pub invariant-scripts : goal.invariant-scripts
invariant-scripts g l = record {
  leads : Leads (standing_of l.fn.now l.fn.frames.items l.fn.scopes l.fn.context) (standing_of l.doing l.frames.items l.scopes l.context);
  shows : g.T.Tasks.shows l.tasks ≡ g.T.Tasks.shows l.fn.tasks;
  left : g.T.Tasks.left_alone l.tasks ≡ g.T.Tasks.left_alone l.fn.tasks;
}

abbrev pub decreases-scripts : goal.decreases-scripts
decreases-scripts g l = weight (moved_of l.doing l.frames.items)
