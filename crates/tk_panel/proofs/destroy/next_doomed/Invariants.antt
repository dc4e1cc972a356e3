use Rattle.std.proofs.Common.{length}
use Rattle.tk_panel.specs.Destroy.{next_doomed}
use Rattle.tk_panel.specs.Shared.{panel_of}
use Rattle.tk_panel.proofs.Others.{Carries}
use Rattle.tk_panel.proofs.destroy.next_doomed.Given as goal

-- the windows before have no scripts for Destroy, and are gone
abbrev pub invariant-loop-number : goal.invariant-loop-number
invariant-loop-number l = Carries (next_doomed l.doomed (panel_of l.slot l.tables)) (next_doomed l.fn.doomed (panel_of l.slot l.fn.tables)) l.slot l.fn.tables l.tables

abbrev pub decreases-loop-number : goal.decreases-loop-number
decreases-loop-number l = length l.doomed
