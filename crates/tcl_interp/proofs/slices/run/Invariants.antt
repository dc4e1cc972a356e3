use Rattle.std.proofs.Common.{◌≡◌, ◌≤◌, ◌+◌, ◌-◌, ◌*◌, true}
use Rattle.tcl_interp.specs.Rests.{doing_of, moved_of, standing_of}
use Rattle.tcl_interp.specs.Steps.{IsSettled, finish_from, pauses_left}
use Rattle.tcl_interp.proofs.slices.run.Given as goal

abbrev pub invariant-iterations : goal.invariant-iterations
invariant-iterations g l = record {
  same : finish_from g.T.Tasks.outside (standing_of l.fn.now l.fn.frames.items l.fn.scopes l.fn.context) (g.T.Tasks.shows l.fn.tasks) l.fn.left ≡ finish_from g.T.Tasks.outside (standing_of l.doing l.frames.items l.scopes l.context) (g.T.Tasks.shows l.tasks) l.left;
  settled : IsSettled true (moved_of l.doing l.frames.items);
  counted : l.left + l.taken ≡ l.fn.left;
  most : l.taken ≤ l.steps;
  alone : g.T.Tasks.left_alone l.tasks ≡ g.T.Tasks.left_alone l.fn.tasks;
}

abbrev pub decreases-iterations : goal.decreases-iterations
decreases-iterations g l = 2 * (l.steps - l.taken) + pauses_left (doing_of l.doing)
