use Rattle.std.proofs.Common.{◌≤◌, ◌-◌, length}
use Rattle.tcl_text.proofs.SoughtLemmas.{ComparesTo}
use Rattle.tcl_text.proofs.sought.is_item_in.Given as goal

abbrev pub invariant-loop-at : goal.invariant-loop-at
invariant-loop-at l = record { within : l.at ≤ length l.text; compares : ComparesTo l.quoted l.item l.text l.at l.left }

abbrev pub decreases-loop-at : goal.decreases-loop-at
decreases-loop-at l = length l.text - l.at
