use Rattle.std.proofs.Common.{◌≡◌}
use Rattle.std.specs.List.{filter_map}
use Rattle.tk_after.specs.Keys.{Mark, marks_in, marks_of}
use Rattle.tk_after.specs.Timers.{lesser, least}
use Rattle.tk_after.proofs.index.TimerIndex.next_due.Given as goal

-- the earliest so far and that of the rest give that of all
abbrev pub invariant-loop-due : goal.invariant-loop-due
invariant-loop-due l = lesser l.earliest (least (filter_map (λ (mark : Mark). mark.due) (marks_in l.due-iterator))) ≡ least (filter_map (λ (mark : Mark). mark.due) (marks_of l.owner l.self))
