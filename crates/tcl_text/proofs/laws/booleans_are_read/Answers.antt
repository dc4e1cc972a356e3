use Rattle.tcl_text.proofs.BooleanReading.{IsBoolean-from_boolean_of, boolean_of-from_IsBoolean}
use Rattle.tcl_text.proofs.laws.booleans_are_read.Goals as goal

pub returns : goal.returns
returns c = λ text b. (IsBoolean-from_boolean_of text b, boolean_of-from_IsBoolean text b)
