use Rattle.std.proofs.Common.{◌≡◌, ◌++◌, take}
use Rattle.std.specs.List.{flat_map}
use Rattle.tk_inputs.specs.Deliver.{told_events}
use Rattle.tk_dispatch.specs.Queue.{own_of, LeavesOthers}
use Rattle.tk_tree.specs.Shared as tree
use Rattle.tk_inputs.proofs.delivery.queue_told.Given as goal

-- those told so far are queued
abbrev pub invariant-loop-event : goal.invariant-loop-event
invariant-loop-event l = record {
  own : own_of l.slot l.queue ≡ own_of l.slot l.fn.queue ++ flat_map (told_events l.line (tree.own_of l.slot l.windows)) (take l.event-index l.told);
  others : LeavesOthers l.slot l.fn.queue l.queue;
}
