use Rattle.std.proofs.Common.{◌≡◌, ◌++◌}
use Rattle.std.specs.Prelude.{map, filter, is_none}
use Rattle.tk_after.specs.Keys.{Mark, mark_number, marks_in, marks_of}
use Rattle.tk_after.proofs.index.TimerIndex.idle_ids.Given as goal

-- the numbers so far and those of the rest are those of all
abbrev pub invariant-loop-name : goal.invariant-loop-name
invariant-loop-name l =
    l.list.items ++ map mark_number (filter (λ (mark : Mark). is_none mark.due) (marks_in l.name-iterator)) ≡ map mark_number (filter (λ (mark : Mark). is_none mark.due) (marks_of l.owner l.self))
