use Rattle.std.proofs.Common.{◌≡◌, sym, ◌∙◌, Some}
use Rattle.tcl_text.proofs.BooleanReading.{boolean_of-from_IsBoolean}
use Rattle.tcl_text.proofs.laws.one_boolean.Goals as goal

pub returns : goal.returns
returns c = λ text a b first second.
    let same : Some a ≡ Some b = sym (boolean_of-from_IsBoolean text a first) ∙ boolean_of-from_IsBoolean text b second in cc
