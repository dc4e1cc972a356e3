use Rattle.std.proofs.Common.{ℕ, List, map, ap, string_bytes, subst, sym, ◌∙◌}
use Rattle.panels_text.specs.Refusals.{words_asked}
use Rattle.panels_report.specs.declared.linting.Replacement.{Replacement}
use Rattle.panels_report.specs.Lint.{AreOthers, questions_told}
use Rattle.panels_report.specs.Trials.{answers_of}
use Rattle.panels_report.proofs.Questioned.{are_wrong}
use Rattle.panels_report.proofs.linting.push_wrong.Goals as goal

pub returns : goal.returns
returns c =
    let questions = c.as_slice-questions.result.now in
    let own = map string_bytes c.as_slice-own.result.now in
    let answers = map string_bytes c.as_slice-3.result.now in
    let others = c.as_slice-4.result.now in
    let tried = map string_bytes c.as_slice-5.result.now in (
      questions_told own answers others tried 0 questions,
      are_wrong c.args.found.now own answers tried questions others (ap (map string_bytes) c.as_slice-own.ensures.value) c.as_slice-questions.ensures.value
          (ap (map string_bytes) c.as_slice-3.ensures.value ∙ c.in_ok-answers.ensures)
          (ap (map string_bytes) c.as_slice-5.ensures.value ∙ c.in_ok-tried.ensures
          ∙ ap (λ (all : List Replacement). answers_of (map (λ (other : Replacement). words_asked other.question) all)) (c.as_slice-2.ensures.value ∙ sym c.as_slice-4.ensures.value))
          (subst (λ (all : List Replacement). AreOthers own answers 0 questions all) (sym c.as_slice-4.ensures.value)
          (subst (λ (all : List (List ℕ)). AreOthers own all 0 questions c.in_ok-others.others.items) (ap (map string_bytes) (c.as_slice.ensures.value ∙ sym c.as_slice-3.ensures.value)) c.in_ok-others.ensures)),
      c.in_ok-push_questions.ensures,
    )
