use Rattle.std.proofs.Common.{◌≡◌, ℕ, List, Some, map, ap, string_bytes, subst, sym, ◌∙◌}
use Rattle.std.proofs.lemmas.Result.{IfOk-weaker}
use Rattle.panels_text.specs.Refusals.{Refused, refused_word, word_in, words_asked}
use Rattle.panels_text.specs.Words.{words_of}
use Rattle.panels_text.specs.declared.refusals.Refusal.{Refusal}
use Rattle.panels_report.specs.Lint.{AreTried}
use Rattle.panels_report.proofs.Questioned.{others_some}
use Rattle.panels_report.proofs.linting.others_of.Goals as goal

pub returns-in_ok-words-in-Some-Word : goal.returns-in_ok-words-in-Some-Word
returns-in_ok-words-in-Some-Word c =
    let words = words_asked c.args.question.now in
    let one : Refused = (c.in-Some-Word.word.now, c.in-Some-Word.index) in
    let likely = words_of c.in_ok-words-in-Some-Word.words.items in
    let here : Some one ≡ refused_word c.args.question.now c.args.answer.now = ap (λ (refusal : Refusal). word_in (Some refusal)) (sym c.in-Some-Word.field-0-is) ∙ c.in-Some-Word.ensures.word in
    IfOk-weaker c.tried.result _ _
    (λ found are.
    others_some (map string_bytes c.args.own.now) c.args.number words (refused_word c.args.question.now c.args.answer.now) one likely found.items here c.in_ok-words-in-Some-Word.ensures
    (subst (λ (all : List (List ℕ)). AreTried c.args.number words one all found.items) (ap words_of c.as_slice.ensures.value) are))
    c.tried.ensures
