use Rattle.std.proofs.Common.{◌≡◌, ◌-◌, ◌∙◌, arith}
use Rattle.std.specs.Char.{digit_value}
use Rattle.tcl_text.specs.Backslash.{digits_from}
use Rattle.tcl_text.proofs.BackslashLemmas.{all_digits, none_left, no_text, no_digit, past_bound}
use Rattle.tcl_text.proofs.backslash.leading_digits.Goals as goal
use Rattle.tcl_text.proofs.backslash.leading_digits.Goals.{else-loop-left-test, then-loop-left-test+in_default, then-loop-left-test+in-Some+then-base-digit, then-base-digit-via-then-base-digit, then-base-digit-via-else-base-digit+then-bound-value}

pub returns-clause-value : goal.returns-clause-value
returns-clause-value c =
    let base = c.args.base in
    let bound = c.args.bound in
    let value = c.loop-left.value in
    let left = c.loop-left.left in
    let rest = c.loop-left.rest.now in
    all_digits (c.args.most - left) value (digits_from base bound left value rest) (digits_from base bound c.args.most 0 c.args.text.now)
    (elim c.loop-left-test.branch [
      | else-loop-left-test w ↦ none_left base bound value left rest (omega arith)
      | then-loop-left-test+in_default w ↦ no_text base bound value left rest w.in_default.ensures.cases
      | then-loop-left-test+in-Some+then-base-digit w ↦ elim w.then-base-digit.branch [
        | then-base-digit-via-then-base-digit x ↦ no_digit base bound value left w.in-Some.first.now rest w.in-Some.others.now w.in-Some.ensures.cases.0 (omega arith)
        | then-base-digit-via-else-base-digit+then-bound-value x ↦ (
            let digit : w.from-digit.result ≡ digit_value w.in-Some.first.now = w.from-digit.ensures ∙ w.digit_value.ensures in
            past_bound base bound value left w.in-Some.first.now rest w.in-Some.others.now w.in-Some.ensures.cases.0 (omega arith))
      ]
    ])
    c.loop-left.invariant.value
    c.loop-left.invariant.count
