use Rattle.std.proofs.Common.{◌≡◌, ◌∙◌, ap, arith, length, drop, ◌-◌}
use Rattle.tcl_text.specs.Readings.{skip_white}
use Rattle.tcl_text.proofs.ElementLemmas.{skip_white_within, skip_white_is_drop, skip_white_boundary}
use Rattle.tcl_text.proofs.white_space.behind_white.Goals as goal

pub overflow_sub-text : goal.overflow_sub-text
overflow_sub-text c =
    let is : c.skip_white-behind.result.now ≡ skip_white c.args.text.now = c.skip_white-behind.ensures ∙ ap skip_white c.as_bytes.ensures.value in
    omega (arith, ap length is, skip_white_within c.args.text.now)

pub range_from-requires : goal.range_from-requires
range_from-requires c = λ _.
    skip_white_boundary c.args.text.now c.skip_white-behind.result.now (c.skip_white-behind.ensures ∙ ap skip_white c.as_bytes.ensures.value) c.utf8.text

pub returns : goal.returns
returns c =
    let text = c.args.text.now in
    let is : c.skip_white-behind.result.now ≡ skip_white text = c.skip_white-behind.ensures ∙ ap skip_white c.as_bytes.ensures.value in
    c.range_from.ensures.value ∙ ap (λ rest. drop (length text - length rest) text) is ∙ skip_white_is_drop text
