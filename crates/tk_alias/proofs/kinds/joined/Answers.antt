use Rattle.std.proofs.Common.{◌≡◌, ◌++◌, ℕ, ◌<◌, List, length, length-append, drop, ap, sym, ◌∙◌, arith}
use Rattle.std.specs.List.{join_with_byte}
use Rattle.std.specs.String.{string_bytes}
use Rattle.tcl_text.proofs.AnswerLemmas.{answers_beyond, given_error}
use Rattle.tk_alias.proofs.JoinLemmas.{behind_blanks, join-behind_blanks}
use Rattle.tk_alias.proofs.kinds.joined.Goals as goal

pub loop-word-init : goal.loop-word-init
loop-word-init c =
    let first = c.in-Some.first.now in
    let others = c.in-Some.others.now in
    ap (λ (front : List ℕ). front ++ behind_blanks others) (c.in_ok-string.ensures.ok ∙ c.as_str.ensures.bytes)
    ∙ sym (join-behind_blanks first others)
    ∙ ap (join_with_byte 32) (sym c.in-Some.ensures.cases.0)

pub returns-then-len-gt-MAX_BYTES : goal.returns-then-len-gt-MAX_BYTES
returns-then-len-gt-MAX_BYTES c =
    let front = string_bytes c.loop-word.string in
    let longer : length (front ++ behind_blanks (drop c.loop-word.word-index c.in-Some.others.now)) ≡ length (join_with_byte 32 c.args.words.now) = ap length c.loop-word.invariant in
    let long : 65536 < length (join_with_byte 32 c.args.words.now) = omega (arith, longer, length-append front (behind_blanks (drop c.loop-word.word-index c.in-Some.others.now)), c.len.ensures) in
    rw (answers_beyond _ long) (given_error _ _ _ c.limit_reached.ensures)
