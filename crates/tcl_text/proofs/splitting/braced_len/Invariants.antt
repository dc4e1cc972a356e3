use Rattle.std.proofs.Common.{◌≤◌, ◌-◌, take, length}
use Rattle.tcl_text.specs.Readings.{in_braces}
use Rattle.tcl_text.specs.Splitting.{ReadsTo}
use Rattle.tcl_text.proofs.splitting.braced_len.Given as goal

-- the bytes so far stand in the braces
abbrev pub invariant-loop-at : goal.invariant-loop-at
invariant-loop-at l =
    record { within : l.at ≤ length l.text; depth : l.depth ≤ l.at; reads : ReadsTo (in_braces 0) l.text l.at (take l.at l.text) (in_braces l.depth) }

abbrev pub decreases-loop-at : goal.decreases-loop-at
decreases-loop-at l = length l.text - l.at
