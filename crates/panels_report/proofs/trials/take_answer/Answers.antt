use Rattle.std.proofs.Common.{◌≡◌, ℕ, List, Option, Bor, map, option_map, set, ap, string_bytes, subst, sym, ◌∙◌}
use Rattle.std.proofs.lemmas.List.{map-set}
use Rattle.panels_report.specs.Trials.{with_answer}
use Rattle.panels_report.proofs.trials.take_answer.Goals as goal

pub returns : goal.returns
returns c =
    let before = c.args.answers.now.items in
    let P : Option (ℕ × Bor (List ℕ)) → Type 0 = λ answer.
    map string_bytes c.put.new.texts.items ≡ with_answer (option_map (λ (own : ℕ × Bor (List ℕ)). (own.0, own.1.now)) answer) (map string_bytes before) in
    subst P (sym c.in-Some.is)
    (ap (map string_bytes) c.put.ensures ∙ map-set string_bytes before c.in-Some.number c.in_ok-text.text ∙ ap (set (map string_bytes before) c.in-Some.number) c.in_ok-text.ensures.ok)
