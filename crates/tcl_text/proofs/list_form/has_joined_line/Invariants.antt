use Rattle.std.proofs.Common.{◌≡◌, length}
use Rattle.tcl_text.specs.Readings.{has_joined_line}
use Rattle.tcl_text.proofs.list_form.has_joined_line.Given as goal

abbrev pub invariant-loop-first : goal.invariant-loop-first
invariant-loop-first l = has_joined_line l.rest ≡ has_joined_line l.fn.item

abbrev pub decreases-loop-first : goal.decreases-loop-first
decreases-loop-first l = length l.rest
