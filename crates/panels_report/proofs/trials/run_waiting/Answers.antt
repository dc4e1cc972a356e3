use Rattle.std.proofs.Common.{◌≡◌, List, ℕ, map, length, true, Bool, if◌then◌else◌, ap, sym, ◌∙◌, arith}
use Rattle.std.proofs.lemmas.Bool.{lt-ltb}
use Rattle.std.specs.String.{string_bytes}
use Rattle.panels_report.specs.Trials.{are_many, with_commands}
use Rattle.panels_report.proofs.trials.run_waiting.Goals as goal

pub returns-clause-answers : goal.returns-clause-answers
returns-clause-answers c =
    let commands : List ℕ = string_bytes c.args.commands.now in
    let answers : List (List ℕ) = map string_bytes c.args.answers.now.items in
    let many : are_many commands ≡ true = lt-ltb 60000 (length commands) (omega (arith, c.if-len-le-MOST_BYTES.false, c.len.ensures)) in
    c.in_ok-run.ensures ∙ ap (λ text. with_commands text answers) c.as_str.ensures.value
    ∙ sym (ap (λ (run : Bool). if run then with_commands commands answers else answers) many)
