use Rattle.std.proofs.Common.{◌≡◌, ◌++◌, List, ℕ, map, Option, OnOk, ap, sym, subst, ◌∙◌}
use Rattle.std.specs.String.{string_bytes}
use Rattle.panels_report.specs.Trials.{if_short, with_script}
use Rattle.panels_report.proofs.trials.run.Goals as goal

pub returns : goal.returns
returns c =
    subst (λ (script : Option (List ℕ)). OnOk c.run_script.result (map string_bytes c.run_script.new.answers.items ≡ with_script script (map string_bytes c.args.answers.now.items)))
    (c.in_ok-script-2.ensures ∙ ap if_short (c.as_str.ensures.value ∙ c.in_ok-script.ensures.ok)) c.run_script.ensures
