use Rattle.std.proofs.Common.{◌≡◌, sym, ◌∙◌, Some}
use Rattle.tcl_text.proofs.IntegerReading.{integer_of-from_IsInteger}
use Rattle.tcl_text.proofs.laws.one_integer.Goals as goal

pub returns : goal.returns
returns c = λ text m n first second.
    let same : Some m ≡ Some n = sym (integer_of-from_IsInteger text m first) ∙ integer_of-from_IsInteger text n second in cc
