use Rattle.std.proofs.Common.{◌≡◌, ◌<◌, ◌≤◌, ◌+◌, ◌-◌, List}
use Rattle.tcl_interp.specs.Finish.{Tests, Waiting}
use Rattle.tcl_interp.specs.Items.{looping_over}
use Rattle.tcl_interp.specs.Moves.{moved, standing}
use Rattle.tcl_interp.specs.Steps.{TakesSteps}
use Rattle.tcl_interp.proofs.items.items_turns.Given as goal

abbrev pub invariant-turns : goal.invariant-turns
invariant-turns g l = record {
  same : (waits : List (Waiting g.row.T-Task.Denot)) (shows : g.T.Tasks.Shows) → TakesSteps g.T.Tasks.outside l.steps
      (standing (moved (Tests l.room (looping_over l.body l.fn.groups)) waits) l.fn.scopes l.context) shows
      (standing (moved (Tests l.room (looping_over l.body l.items)) waits) l.scopes l.context) shows;
  most : l.steps ≤ l.most;
  counted : l.left + l.steps ≡ l.fn.left;
}

abbrev pub decreases-turns : goal.decreases-turns
decreases-turns g l = l.most - l.steps
