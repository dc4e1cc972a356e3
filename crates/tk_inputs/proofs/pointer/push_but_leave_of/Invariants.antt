use Rattle.std.proofs.Common.{◌≡◌, ◌++◌, filter, not, take}
use Rattle.tk_inputs.specs.Pointer.{is_leave_of}
use Rattle.tk_inputs.proofs.pointer.push_but_leave_of.Given as goal

abbrev pub invariant-loop-event : goal.invariant-loop-event
invariant-loop-event l = l.told.items ≡ l.fn.told.items ++ filter (λ event. not (is_leave_of l.fn.window event)) (take l.event-index l.crossed)
