use Rattle.std.proofs.Common.{◌≡◌}
use Rattle.tcl_interp.specs.Rests.{moved_of, standing_of}
use Rattle.tcl_interp.specs.Steps.{TakesNone}
use Rattle.tcl_interp.proofs.Weights.{tasks}
use Rattle.tcl_interp.proofs.slices.settle.Given as goal

abbrev pub invariant-moves : goal.invariant-moves
invariant-moves g l = record {
  same : TakesNone g.T.Tasks.outside (standing_of l.fn.now l.fn.frames.items l.fn.scopes l.fn.context) (g.T.Tasks.shows l.fn.tasks) (standing_of l.doing l.frames.items l.scopes l.context) (g.T.Tasks.shows l.tasks);
  left : g.T.Tasks.left_alone l.tasks ≡ g.T.Tasks.left_alone l.fn.tasks;
}

abbrev pub decreases-moves : goal.decreases-moves
decreases-moves g l = tasks g.T.Tasks.outside.size (moved_of l.doing l.frames.items)
