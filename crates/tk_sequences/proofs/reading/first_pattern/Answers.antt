use Rattle.std.proofs.Common.{◌≡◌, ◌≢◌, ◌<◌, ◌++◌, ◌∷◌, ℕ, List, Ok, Err, Some, None, sym, ap, ◌∙◌, subst, drop, length, get_or, lit<, arith}
use Rattle.std.proofs.lemmas.Str.{IsCharBoundary-after_ascii}
use Rattle.std.proofs.lemmas.Str.Pattern.{split_parts}
use Rattle.std.specs.Borrow.{Bor}
use Rattle.tk_sequences.specs.Reading.{OrFault, plain_pattern, pattern_of}
use Rattle.tk_sequences.specs.declared.fault.SequenceFault.TheVariants.{BadSequence}
use Rattle.tk_sequences.proofs.PieceLemmas.{behind_utf8, plain_boundary, bracket_boundary, bracket_first, bracket_refused, bracket_open}
use Rattle.tk_sequences.proofs.reading.first_pattern.Goals as goal

pub returns-then-first-ne60-clause-cut : goal.returns-then-first-ne60-clause-cut
returns-then-first-ne60-clause-cut c =
    let is : plain_pattern c.args.whole.now (get_or c.args.text.now 0 0) ≡ Ok c.in_ok-plain_pattern.field-0 =
    subst (λ (bytes : List ℕ). plain_pattern c.args.whole.now (get_or bytes 0 0) ≡ Ok c.in_ok-plain_pattern.field-0) c.as_bytes.ensures.value c.in_ok-plain_pattern.ensures.ok in
    (omega arith, plain_boundary c.args.whole.now c.args.text.now c.in_ok-plain_pattern.field-0 c.utf8.text c.requires.some is)

pub range_from-requires : goal.range_from-requires
range_from-requires c = λ _.
    let at : get_or c.args.text.now 0 0 ≡ 60 = subst (λ (bytes : List ℕ). get_or bytes 0 0 ≡ 60) c.as_bytes.ensures.value c.if-first-ne60.false in
    IsCharBoundary-after_ascii c.args.text.now 0 c.utf8.text c.requires.some (omega arith)

pub returns-in_ok-copy-in-None-clause-refused : goal.returns-in_ok-copy-in-None-clause-refused
returns-in_ok-copy-in-None-clause-refused c = λ _ room.
    let text = c.args.text.now in
    let whole = c.args.whole.now in
    let at : get_or text 0 0 ≡ 60 = subst (λ (bytes : List ℕ). get_or bytes 0 0 ≡ 60) c.as_bytes.ensures.value c.if-first-ne60.false in
    let none = split_parts 62 c.range_from.result.now None c.in-None.ensures.cases (lit< tt) in
    let lacks = subst (λ (rest : List ℕ). (k : ℕ) → k < length rest → get_or rest k 0 ≢ 62) c.range_from.ensures.value none in
    bracket_open whole text c.requires.some at lacks room ∙ ap (λ (w : List ℕ). Err (BadSequence w)) (sym c.in_ok-copy-in-None.ensures.ok)

pub returns-in-Err-clause-refused : goal.returns-in-Err-clause-refused
returns-in-Err-clause-refused c = λ differs room.
    let text = c.args.text.now in
    let at : get_or text 0 0 ≡ 60 = subst (λ (bytes : List ℕ). get_or bytes 0 0 ≡ 60) c.as_bytes.ensures.value c.if-first-ne60.false in
    let parts = split_parts 62 c.range_from.result.now (Some (c.in-Some.inner, c.in-Some.behind)) c.in-Some.ensures.cases (lit< tt) in
    bracket_refused c.args.whole.now text c.in-Some.inner.now c.in-Some.behind.now c.in-Err.fault c.requires.some at (sym c.range_from.ensures.value ∙ parts.0) parts.1 (c.in-Err.ensures.refused differs) room

pub returns-in-Ok-clause-ok : goal.returns-in-Ok-clause-ok
returns-in-Ok-clause-ok c = λ room.
    let text = c.args.text.now in
    let at : get_or text 0 0 ≡ 60 = subst (λ (bytes : List ℕ). get_or bytes 0 0 ≡ 60) c.as_bytes.ensures.value c.if-first-ne60.false in
    let parts = split_parts 62 c.range_from.result.now (Some (c.in-Some.inner, c.in-Some.behind)) c.in-Some.ensures.cases (lit< tt) in
    bracket_first c.args.whole.now text c.in-Some.inner.now c.in-Some.behind.now c.in-Ok.pattern c.requires.some at (sym c.range_from.ensures.value ∙ parts.0) parts.1 c.in-Ok.ensures.ok room

pub returns-in-Ok-clause-cut : goal.returns-in-Ok-clause-cut
returns-in-Ok-clause-cut c =
    let text = c.args.text.now in
    let at : get_or text 0 0 ≡ 60 = subst (λ (bytes : List ℕ). get_or bytes 0 0 ≡ 60) c.as_bytes.ensures.value c.if-first-ne60.false in
    let parts = split_parts 62 c.range_from.result.now (Some (c.in-Some.inner, c.in-Some.behind)) c.in-Some.ensures.cases (lit< tt) in
    bracket_boundary text c.in-Some.inner.now c.in-Some.behind.now (behind_utf8 c.range_from.result.now c.in-Some.inner.now c.in-Some.behind.now c.range_from.utf8 parts.0) c.requires.some at (sym c.range_from.ensures.value ∙ parts.0)
