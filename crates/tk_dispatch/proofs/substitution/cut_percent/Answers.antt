use Rattle.std.proofs.Common.{◌-◌, ◌≡◌, ℕ, List, take, Some, None, ap, subst, ◌∙◌, arith}
use Rattle.memchr.specs.Find.{IsFirstByte, is_byte}
use Rattle.tk_dispatch.proofs.Runs.{behind_percent, parts_cut, whole_stays}
use Rattle.tk_dispatch.proofs.substitution.cut_percent.Goals as goal

pub returns-in_err-place-clause-cut : goal.returns-in_err-place-clause-cut
returns-in_err-place-clause-cut c = λ event.
    let away = subst (λ (bytes : List ℕ). IsFirstByte (is_byte 37) bytes None) c.as_bytes.ensures.value c.in_err-place.ensures in
    rw c.from_residual.ensures (whole_stays event c.args.text.now away)

pub range_from-requires : goal.range_from-requires
range_from-requires c = λ _.
    let found = subst (λ (bytes : List ℕ). IsFirstByte (is_byte 37) bytes (Some c.in_ok-place.place)) c.as_bytes.ensures.value c.in_ok-place.ensures in
    behind_percent c.args.text.now c.in_ok-place.place c.utf8.text found

pub returns-clause-cut : goal.returns-clause-cut
returns-clause-cut c = λ event.
    let found = subst (λ (bytes : List ℕ). IsFirstByte (is_byte 37) bytes (Some c.in_ok-place.place)) c.as_bytes.ensures.value c.in_ok-place.ensures in
    let whole : c.in_ok-place.place - 0 ≡ c.in_ok-place.place = omega arith in
    parts_cut event c.args.text.now c.in_ok-place.place c.range.result.now c.range_from.result.now found
    (c.range.ensures.value ∙ ap (λ (n : ℕ). take n c.args.text.now) whole) c.range_from.ensures.value
