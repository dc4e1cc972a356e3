use Rattle.std.proofs.Common.{◌≡◌}
use Rattle.std.specs.Prelude.{find}
use Rattle.tk_after.specs.Keys.{lies_due_at, marks_in, marks_of}
use Rattle.tk_after.proofs.index.TimerIndex.first_at.Given as goal

-- the first of the rest is the first of all
abbrev pub invariant-loop-name : goal.invariant-loop-name
invariant-loop-name l = find (lies_due_at l.moment) (marks_in l.name-iterator) ≡ find (lies_due_at l.moment) (marks_of l.owner l.self)
