use Rattle.std.proofs.Common.{arith, ap, sym, ◌∙◌, false}
use Rattle.tcl_text.specs.Readings.{integer_of, numeral_of, signed_numeral, signed_option}
use Rattle.tcl_text.proofs.IntegerLemmas.{signed_option-below, signed_numeral-unsigned}
use Rattle.tcl_text.proofs.integer.integer_in.Goals as goal

pub returns-in_default : goal.returns-in_default
unfolding integer_of
returns-in_default c =
    let rest = c.skip_white-rest.result.now in
    c.with_sign-in_default.ensures ∙ ap (signed_option false) c.numeral_of-in_default.ensures ∙ signed_option-below false (numeral_of rest)
    ∙ sym (signed_numeral-unsigned rest c.in_ok-first.others.now c.in_ok-first.first.now c.in_ok-first.ensures.cases.0 (omega arith) (omega arith))
    ∙ ap signed_numeral c.skip_white-rest.ensures
