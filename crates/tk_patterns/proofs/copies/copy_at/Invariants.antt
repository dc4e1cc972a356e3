use Rattle.std.proofs.Common.{◌≡◌, length, slice_get}
use Rattle.tk_patterns.specs.Copies.{all_copies}
use Rattle.tk_patterns.proofs.copies.copy_at.Given as goal

abbrev pub invariant-loop-pattern : goal.invariant-loop-pattern
invariant-loop-pattern l = slice_get (all_copies l.rest) l.left ≡ slice_get (all_copies l.patterns) l.place

abbrev pub decreases-loop-pattern : goal.decreases-loop-pattern
decreases-loop-pattern l = length l.rest
