use Rattle.std.proofs.Common.{◌≡◌, ap, sym, ◌∙◌}
use Rattle.std.specs.Cmp.Lexicographic.{same_text}
use Rattle.tcl_text.specs.StringCommands.{trimmed}
use Rattle.tcl_text.proofs.StringLemmas.{single_word}
use Rattle.tcl_text.proofs.text.Text.is_trimmed.Goals as goal

pub returns : goal.returns
returns c = λ is.
    let same : c.trimmed.result.now ≡ c.as_str-text.result.now = same_text c.trimmed.result.now c.as_str-text.result.now (sym is ∙ c.eq.ensures) in
    single_word c.args.self.now (ap trimmed (sym c.as_str-text.ensures.bytes) ∙ sym c.trimmed.ensures ∙ same ∙ c.as_str-text.ensures.bytes) c.as_str-text.ensures.short
