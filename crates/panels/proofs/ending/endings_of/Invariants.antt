use Rattle.std.proofs.Common.{◌≡◌, length}
use Rattle.panels.proofs.ending.endings_of.Given as goal

abbrev pub invariant-loop-slot : goal.invariant-loop-slot
invariant-loop-slot g l = length l.endings.items ≡ l.slot
