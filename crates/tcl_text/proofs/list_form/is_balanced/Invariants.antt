use Rattle.std.proofs.Common.{◌≡◌, ◌≤◌, ◌-◌, drop, length}
use Rattle.tcl_text.specs.Backslash.{marks}
use Rattle.tcl_text.specs.Readings.{are_balanced}
use Rattle.tcl_text.proofs.list_form.is_balanced.Given as goal

-- what is left is balanced, with so many braces open, exactly where the whole is
abbrev pub invariant-loop-at : goal.invariant-loop-at
invariant-loop-at l =
    record { fits : l.at ≤ length l.item; depth : l.depth ≤ l.at; same : are_balanced l.depth (marks (drop l.at l.item)) ≡ are_balanced 0 (marks l.item) }

abbrev pub decreases-loop-at : goal.decreases-loop-at
decreases-loop-at l = length l.item - l.at
