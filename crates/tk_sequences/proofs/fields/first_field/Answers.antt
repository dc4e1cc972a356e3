use Rattle.std.proofs.Common.{◌≡◌, ◌∷◌, [], ℕ, List, ap, sym, ◌∙◌, subst, length, take, drop, ◌<◌, ◌-◌, arith}
use Rattle.std.specs.List.{prefix_len, position_or_len}
use Rattle.std.specs.Str.{IsCharBoundary}
use Rattle.tk_sequences.specs.Reading.{fields}
use Rattle.tk_sequences.specs.Words.{is_separator}
use Rattle.tk_sequences.proofs.FieldLemmas.{fields-skip, skipped, fields-none, fields-some, skip_boundary, stop_boundary}
use Rattle.tk_sequences.proofs.fields.first_field.Goals as goal

pub range_from-text-requires : goal.range_from-text-requires
range_from-text-requires c = λ _.
    let at : c.separators_len.result ≡ prefix_len is_separator c.args.text.now = c.separators_len.ensures ∙ ap (prefix_len is_separator) c.as_bytes.ensures.value in
    subst (IsCharBoundary c.args.text.now) (sym at) (skip_boundary c.args.text.now c.utf8.text)

pub returns-then-length-eq0-clause-fields : goal.returns-then-length-eq0-clause-fields
returns-then-length-eq0-clause-fields c =
    let text = c.args.text.now in
    let left : c.range_from-text.result.now ≡ drop (prefix_len is_separator text) text = c.range_from-text.ensures.value ∙ ap (λ n. drop n text) (c.separators_len.ensures ∙ ap (prefix_len is_separator) c.as_bytes.ensures.value) in
    let none : position_or_len is_separator (drop (prefix_len is_separator text) text) ≡ 0 = ap (position_or_len is_separator) (sym left ∙ sym c.as_bytes-2.ensures.value) ∙ sym c.field_len-length.ensures ∙ c.if-length-eq0.true in
    sym (fields-skip text) ∙ fields-none (drop (prefix_len is_separator text) text) (skipped text) none

pub range-requires-clause-end_boundary : goal.range-requires-clause-end_boundary
range-requires-clause-end_boundary c =
    let rest = c.range_from-text.result.now in
    let at : c.field_len-length.result ≡ position_or_len is_separator rest = c.field_len-length.ensures ∙ ap (position_or_len is_separator) c.as_bytes-2.ensures.value in
    subst (IsCharBoundary rest) (sym at) (stop_boundary rest c.range_from-text.utf8)

pub range_from-requires : goal.range_from-requires
range_from-requires c = λ _.
    let rest = c.range_from-text.result.now in
    let at : c.field_len-length.result ≡ position_or_len is_separator rest = c.field_len-length.ensures ∙ ap (position_or_len is_separator) c.as_bytes-2.ensures.value in
    subst (IsCharBoundary rest) (sym at) (stop_boundary rest c.range_from-text.utf8)

pub returns-clause-fields : goal.returns-clause-fields
returns-clause-fields c =
    let text = c.args.text.now in
    let rest = c.range_from-text.result.now in
    let left : rest ≡ drop (prefix_len is_separator text) text = c.range_from-text.ensures.value ∙ ap (λ n. drop n text) (c.separators_len.ensures ∙ ap (prefix_len is_separator) c.as_bytes.ensures.value) in
    let at : c.field_len-length.result ≡ position_or_len is_separator rest = c.field_len-length.ensures ∙ ap (position_or_len is_separator) c.as_bytes-2.ensures.value in
    let some : 0 < position_or_len is_separator rest = omega arith in
    let first : take (position_or_len is_separator rest) rest ≡ c.range.result.now =
    let e : c.field_len-length.result - 0 ≡ c.field_len-length.result = omega arith in
    ap (λ n. take n rest) (sym at) ∙ sym (c.range.ensures.value ∙ ap (λ n. take n rest) e) in
    let others : drop (position_or_len is_separator rest) rest ≡ c.range_from.result.now = ap (λ n. drop n rest) (sym at) ∙ sym c.range_from.ensures.value in
    sym (fields-skip text) ∙ ap fields (sym left) ∙ fields-some rest some
    ∙ ap (λ (word : List ℕ). word ∷ fields (drop (position_or_len is_separator rest) rest)) first
    ∙ ap (λ (behind : List ℕ). c.range.result.now ∷ fields behind) others
