use Rattle.std.proofs.Common.{◌-◌, ◌≡◌, ℕ, List, take, Some, None, ap, subst, ◌∙◌, arith}
use Rattle.memchr.specs.Find.{IsFirstByte, is_byte}
use Rattle.tk_widgets.proofs.LineLemmas.{behind_newline, lines_cut, one_line}
use Rattle.tk_widgets.proofs.measure.cut_line.Goals as goal

pub returns-in_err-place-clause-lines : goal.returns-in_err-place-clause-lines
returns-in_err-place-clause-lines c =
    let away = subst (λ (bytes : List ℕ). IsFirstByte (is_byte 10) bytes None) c.as_bytes.ensures.value c.in_err-place.ensures in
    rw c.from_residual.ensures (one_line c.args.text.now away)

pub range_from-requires : goal.range_from-requires
range_from-requires c = λ _.
    let found = subst (λ (bytes : List ℕ). IsFirstByte (is_byte 10) bytes (Some c.in_ok-place.place)) c.as_bytes.ensures.value c.in_ok-place.ensures in
    behind_newline c.args.text.now c.in_ok-place.place c.utf8.text found

pub returns-clause-lines : goal.returns-clause-lines
returns-clause-lines c =
    let found = subst (λ (bytes : List ℕ). IsFirstByte (is_byte 10) bytes (Some c.in_ok-place.place)) c.as_bytes.ensures.value c.in_ok-place.ensures in
    let whole : c.in_ok-place.place - 0 ≡ c.in_ok-place.place = omega arith in
    lines_cut c.args.text.now c.in_ok-place.place c.range.result.now c.range_from.result.now found
    (c.range.ensures.value ∙ ap (λ (n : ℕ). take n c.args.text.now) whole) c.range_from.ensures.value
