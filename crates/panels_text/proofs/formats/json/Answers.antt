use Rattle.std.proofs.Common.{◌≡◌, ◌++◌, false, ap, string_bytes, ◌∙◌}
use Rattle.std.specs.Prelude.{codes}
use Rattle.serde_json.specs.View.{view}
use Rattle.serde_json.specs.Written.{compact_text, has_float}
use Rattle.panels_text.specs.Reports.{verdicts}
use Rattle.panels_text.proofs.ReportLemmas.{verdicts_have_none}
use Rattle.panels_text.proofs.formats.json.Goals as goal

pub returns : goal.returns
returns c =
    let none : has_float (view c.in_ok-verdicts.field-0) ≡ false = ap has_float c.in_ok-verdicts.ensures ∙ verdicts_have_none c.args.cases.now in
    let written : string_bytes c.in_ok-text.text ≡ compact_text (verdicts c.args.cases.now) = c.in_ok-text.ensures.text none ∙ ap compact_text c.in_ok-verdicts.ensures in
    c.in_ok-push_str.ensures.bytes ∙ ap (λ text. text ++ codes "\n") written
