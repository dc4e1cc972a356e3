use Rattle.std.proofs.Common.{◌≡◌, length}
use Rattle.tk_screen.specs.Placing.{with_changes, AreThere}
use Rattle.tk_tree.specs.Shared.{own_of, LeavesOthers}
use Rattle.tk_screen.proofs.placing.write_changes.Given as goal

-- the changes that are left are of windows that are there, and lead to the same
abbrev pub invariant-loop-change : goal.invariant-loop-change
invariant-loop-change l = record {
  there : AreThere l.rest (own_of l.owner l.windows);
  same : with_changes l.rest (own_of l.owner l.windows) ≡ with_changes l.changes (own_of l.owner l.fn.windows);
  others : LeavesOthers l.owner l.fn.windows l.windows;
}

abbrev pub decreases-loop-change : goal.decreases-loop-change
decreases-loop-change l = length l.rest
