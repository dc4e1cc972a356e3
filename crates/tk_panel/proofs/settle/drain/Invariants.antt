use Rattle.std.proofs.Common.{◌≡◌, length}
use Rattle.tk_panel.specs.Shared.{LeavesOthers, panel_of}
use Rattle.tk_panel.specs.Settle.{drained}
use Rattle.tk_panel.proofs.settle.drain.Given as goal

-- the events that were passed over have no scripts
abbrev pub invariant-loop-event : goal.invariant-loop-event
invariant-loop-event l = record {
  same : drained (panel_of l.slot l.tables).queue (panel_of l.slot l.tables) ≡ drained (panel_of l.slot l.fn.tables).queue (panel_of l.slot l.fn.tables);
  others : LeavesOthers l.slot l.fn.tables l.tables;
}

abbrev pub decreases-loop-event : goal.decreases-loop-event
decreases-loop-event l = length (panel_of l.slot l.tables).queue
