use Rattle.std.proofs.Common.{◌≡◌, false, bytes_eq, take}
use Rattle.std.specs.List.{list_any}
use Rattle.tcl_text.specs.Readings.{element_form}
use Rattle.tcl_text.proofs.list_string.ListString.has_form.Given as goal

abbrev pub invariant-loop-number : goal.invariant-loop-number
invariant-loop-number l = list_any (λ one. bytes_eq (element_form one) l.form) (take l.number l.self) ≡ false
