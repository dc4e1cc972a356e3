use Rattle.std.proofs.Common.{◌≡◌, ◌<◌, ◌≤◌, ◌∙◌, ap, sym, get_or, length, arith, true}
use Rattle.std.proofs.lemmas.Str.{IsCharBoundary-after_ascii}
use Rattle.tcl_text.specs.Readings.{is_special}
use Rattle.tcl_text.proofs.ListFormLemmas.{special_low}
use Rattle.tcl_text.proofs.list_form.push_backslashed.Goals as goal

pub range_from-rest-requires : goal.range_from-rest-requires
range_from-rest-requires c = λ _.
    let rest = c.loop-form.rest.now in
    let run = c.plain_len-run.result in
    let is = c.as_bytes.ensures.value in
    let fits : run ≤ length rest = (let h : run ≤ length c.as_bytes.result.now = c.plain_len-run.ensures.fits in omega (arith, ap length is)) in
    let inside : run < length c.as_bytes.result.now = omega (arith, ap length is) in
    let special : is_special (get_or rest run 0) ≡ true = ap (λ bytes. is_special (get_or bytes run 0)) (sym is) ∙ c.plain_len-run.ensures.special inside in
    IsCharBoundary-after_ascii rest run c.loop-form.invariant.utf8 (omega arith) (special_low (get_or rest run 0) special)
