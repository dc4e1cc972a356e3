use Rattle.std.proofs.Common.{length}
use Rattle.tk_panel.specs.Changes.{with_events_of}
use Rattle.tk_panel.specs.Shared.{panel_of}
use Rattle.tk_panel.proofs.Others.{Carries}
use Rattle.tk_panel.proofs.changes.queue_changes.Given as goal

abbrev pub invariant-loop-change : goal.invariant-loop-change
invariant-loop-change l = Carries (with_events_of l.rest (panel_of l.slot l.tables)) (with_events_of l.fn.changes (panel_of l.slot l.fn.tables)) l.slot l.fn.tables l.tables

abbrev pub decreases-loop-change : goal.decreases-loop-change
decreases-loop-change l = length l.rest
