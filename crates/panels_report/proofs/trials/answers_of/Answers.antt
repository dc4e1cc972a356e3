use Rattle.std.proofs.Common.{◌≡◌, List, ℕ, map, ap, sym, ◌∙◌, Bor, String, Global, arith}
use Rattle.std.proofs.lemmas.List.{drop_all}
use Rattle.std.specs.String.{string_bytes}
use Rattle.panels_report.specs.Trials.{answers_from, with_commands}
use Rattle.panels_report.proofs.trials.answers_of.Goals as goal

pub returns : goal.returns
returns c =
    let answers : List (List ℕ) = map string_bytes c.loop-number.answers.items in
    let none = drop_all c.loop-number.number c.args.asks.now (omega (arith, c.loop-number-test.false)) in
    c.in_ok-run.ensures ∙ ap (λ text. with_commands text answers) c.as_str.ensures.value
    ∙ sym (ap (λ (rest : List (Bor (List (String Global)))). answers_from c.loop-number.number (string_bytes c.loop-number.commands) (map (λ (words : Bor (List (String Global))). map string_bytes words.now) rest) answers) none)
    ∙ c.loop-number.invariant
