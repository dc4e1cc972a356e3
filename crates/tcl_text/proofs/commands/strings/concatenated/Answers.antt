use Rattle.std.proofs.Common.{◌∙◌, sym, ap, arith, List, ℕ, take}
use Rattle.tcl_text.specs.StringCommands.{concatenated, trimmed}
use Rattle.tcl_text.specs.StringSteps.{with_word}
use Rattle.tcl_text.proofs.StringLemmas.{concatenated_step}
use Rattle.tcl_text.proofs.commands.strings.concatenated.Goals as goal

pub loop-word-preserved : goal.loop-word-preserved
loop-word-preserved c =
    let before = concatenated (take c.loop-word.word-index c.args.words.now) in
    c.in_ok-push_word.ensures ∙ ap (λ (text : List ℕ). with_word text c.trimmed.result.now) c.loop-word.invariant ∙ ap (with_word before) (c.trimmed.ensures ∙ ap trimmed c.as_str.ensures.bytes) ∙ sym (concatenated_step c.args.words.now c.loop-word.word-index c.word-item.result (omega arith) c.word-item.is)
