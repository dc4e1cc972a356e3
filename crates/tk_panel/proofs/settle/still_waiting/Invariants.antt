use Rattle.std.proofs.Common.{◌≡◌, length}
use Rattle.tk_panel.specs.Shared.{panel_of}
use Rattle.tk_panel.specs.Settle.{still_waiting}
use Rattle.tk_panel.proofs.settle.still_waiting.Given as goal

-- those that were passed over no longer wait
abbrev pub invariant-loop-id : goal.invariant-loop-id
invariant-loop-id l = still_waiting l.round (panel_of l.slot l.tables).timers.entries ≡ still_waiting l.fn.round (panel_of l.slot l.tables).timers.entries

abbrev pub decreases-loop-id : goal.decreases-loop-id
decreases-loop-id l = length l.round
