use Rattle.std.proofs.Common.{◌≡◌, length}
use Rattle.tk_tree.specs.Shared.{own_of, LeavesOthers}
use Rattle.tk_panel.specs.Destroy.{all_dying}
use Rattle.tk_panel.proofs.destroy.mark_all.Given as goal

abbrev pub invariant-loop-number : goal.invariant-loop-number
invariant-loop-number l = record {
  same : all_dying l.rest (own_of l.slot l.windows) ≡ all_dying l.fn.numbers (own_of l.slot l.fn.windows);
  others : LeavesOthers l.slot l.fn.windows l.windows;
}

abbrev pub decreases-loop-number : goal.decreases-loop-number
decreases-loop-number l = length l.rest
