use Rattle.std.proofs.Common.{◌≡◌, ◌≤◌, ◌+◌, ◌*◌, ◌-◌, List, drop, length}
use Rattle.tcl_interp.specs.Finish.{GoesOn, Waiting}
use Rattle.tcl_interp.specs.Moves.{moved, standing}
use Rattle.tcl_interp.specs.Rests.{commands_in}
use Rattle.tcl_interp.specs.Steps.{TakesSteps}
use Rattle.tcl_interp.proofs.whole.+scripts.Given as goal

abbrev pub decreases-run_through : goal.decreases-run_through
decreases-run_through g l = 5 * l.room + 4

abbrev pub decreases-run_whole : goal.decreases-run_whole
decreases-run_whole g l = 5 * l.room + 3

abbrev pub decreases-run_command : goal.decreases-run_command
decreases-run_command g l = 5 * l.room + 2

abbrev pub decreases-run_if : goal.decreases-run_if
decreases-run_if g l = 5 * l.room + 1

abbrev pub decreases-run_switch : goal.decreases-run_switch
decreases-run_switch g l = 5 * l.room + 1

abbrev pub decreases-run_body : goal.decreases-run_body
decreases-run_body g l = 5 * l.room

abbrev pub invariant-run_whole-commands : goal.invariant-run_whole-commands
invariant-run_whole-commands g l = record {
  same : (waits : List (Waiting g.row.T-Task.Denot)) (shows : g.T.Tasks.Shows) → TakesSteps g.T.Tasks.outside l.steps
      (standing (moved (GoesOn l.room (drop l.fn.from (commands_in l.script)) l.fn.previous) waits) l.fn.scopes l.context) shows
      (standing (moved (GoesOn l.room (drop l.next (commands_in l.script)) l.text) waits) l.scopes l.context) shows;
  most : l.steps ≤ l.most;
  counted : l.left + l.steps ≡ l.fn.left;
  untaken : l.steps ≡ 0 → l.scopes ≡ l.fn.scopes;
}

abbrev pub decreases-run_whole-commands : goal.decreases-run_whole-commands
decreases-run_whole-commands g l = length (commands_in l.script) - l.next
