use Rattle.std.proofs.Common.{◌≡◌, ◌++◌, take, drop}
use Rattle.tcl_text.specs.Readings.{with_backslashes}
use Rattle.tcl_text.proofs.list_form.plain_len.Given as goal

abbrev pub invariant-loop-at : goal.invariant-loop-at
invariant-loop-at l = with_backslashes l.item ≡ take l.at l.item ++ with_backslashes (drop l.at l.item)
