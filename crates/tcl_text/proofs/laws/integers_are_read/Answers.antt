use Rattle.tcl_text.proofs.IntegerReading.{IsInteger-from_integer_of, integer_of-from_IsInteger}
use Rattle.tcl_text.proofs.laws.integers_are_read.Goals as goal

pub returns : goal.returns
returns c = λ text n. (IsInteger-from_integer_of text n, integer_of-from_IsInteger text n)
