use Rattle.std.proofs.Common.{◌≡◌, ◌+◌, ◌-◌, ◌≤◌, length}
use Rattle.tcl_text.specs.Backslash.{digits_from}
use Rattle.tcl_text.proofs.backslash.leading_digits.Given as goal

-- the digits so far and those that are left are the digits
abbrev pub invariant-loop-left : goal.invariant-loop-left
invariant-loop-left l =
    record {
      bounded : l.value ≤ l.bound;
      left : l.left ≤ l.most;
      seen : length l.rest + (l.most - l.left) ≡ length l.text;
      value : (digits_from l.base l.bound l.left l.value l.rest).value ≡ (digits_from l.base l.bound l.most 0 l.text).value;
      count : (l.most - l.left) + (digits_from l.base l.bound l.left l.value l.rest).count ≡ (digits_from l.base l.bound l.most 0 l.text).count;
    }

abbrev pub decreases-loop-left : goal.decreases-loop-left
decreases-loop-left l = l.left
