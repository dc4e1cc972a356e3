use Rattle.std.proofs.Common.{◌≡◌, ◌+◌, ◌∙◌, ℕ, ap, arith, length, sym, take}
use Rattle.tcl_text.specs.StringCommands.{concatenated, trimmed}
use Rattle.tcl_text.specs.StringSteps.{word_added}
use Rattle.tcl_text.proofs.LengthLemmas.{concatenated_length, concatenated_within}
use Rattle.tcl_text.proofs.commands.strings.concatenated_len.Goals as goal

pub loop-word-preserved : goal.loop-word-preserved
loop-word-preserved c =
    let step = concatenated_length c.args.words.now c.loop-word.word-index c.word-item.result (omega arith) c.word-item.is in
    let cut : length c.trimmed.result.now ≡ length (trimmed c.word-item.result) = ap length (c.trimmed.ensures ∙ ap trimmed c.as_str.ensures.bytes) in (
      c.in_ok-size.ensures.exact ∙ ap (λ (n : ℕ). word_added n (length c.trimmed.result.now)) c.loop-word.invariant.0 ∙ ap (word_added (length (concatenated (take c.loop-word.word-index c.args.words.now)))) cut ∙ sym step,
      c.in_ok-size.ensures.within,
    )

pub returns-in_err-size-clause-none : goal.returns-in_err-size-clause-none
returns-in_err-size-clause-none c =
    let step = concatenated_length c.args.words.now c.loop-word.word-index c.word-item.result (omega arith) c.word-item.is in
    let within = concatenated_within c.args.words.now (c.loop-word.word-index + 1) in
    let cut : length c.trimmed.result.now ≡ length (trimmed c.word-item.result) = ap length (c.trimmed.ensures ∙ ap trimmed c.as_str.ensures.bytes) in
    let whole : word_added c.loop-word.size (length c.trimmed.result.now) ≡ length (concatenated (take (c.loop-word.word-index + 1) c.args.words.now)) =
    ap (λ (n : ℕ). word_added n (length c.trimmed.result.now)) c.loop-word.invariant.0 ∙ ap (word_added (length (concatenated (take c.loop-word.word-index c.args.words.now)))) cut ∙ sym step
    in
    rw c.from_residual.ensures (omega (arith, whole, within, c.in_err-size.ensures.none))
