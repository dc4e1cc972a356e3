use Rattle.std.proofs.Common.{◌≡◌, ◌≤◌, ◌+◌, ◌-◌}
use Rattle.tcl_interp.specs.Finish.{GoesOn}
use Rattle.tcl_interp.specs.Moves.{moved, standing}
use Rattle.tcl_interp.specs.Rests.{left_in, standing_of, waits_of}
use Rattle.tcl_interp.specs.Steps.{TakesSteps}
use Rattle.tcl_interp.proofs.onward.run_commands.Given as goal

abbrev pub invariant-commands : goal.invariant-commands
invariant-commands g l = record {
  same : TakesSteps g.T.Tasks.outside l.steps (standing (moved (GoesOn l.fn.from.room (left_in l.fn.from) l.fn.previous) (waits_of l.fn.frames.items)) l.fn.scopes l.fn.context) (g.T.Tasks.shows l.fn.tasks)
      (standing_of l.doing l.frames.items l.scopes l.context) (g.T.Tasks.shows l.tasks);
  most : l.steps ≤ l.most;
  counted : l.left + l.steps ≡ l.fn.left;
  untaken : l.steps ≡ 0 → (l.scopes ≡ l.fn.scopes) × (l.context ≡ l.fn.context) × (g.T.Tasks.shows l.tasks ≡ g.T.Tasks.shows l.fn.tasks);
  left : g.T.Tasks.left_alone l.tasks ≡ g.T.Tasks.left_alone l.fn.tasks;
}

abbrev pub decreases-commands : goal.decreases-commands
decreases-commands g l = l.most - l.steps
