use Rattle.std.proofs.Common.{◌≡◌, [], ◌∷◌, ◌++◌, ap, append_assoc, drop, map, string_bytes, ◌∙◌}
use Rattle.std.proofs.lemmas.Result.{on_ok_weaker}
use Rattle.panels_text.specs.Asking.{asked_as, asks, is_whole, pairs, question}
use Rattle.panels_text.specs.Scripts.{said}
use Rattle.panels_text.proofs.questions.push_asked_as.Goals as goal

pub returns : goal.returns
returns c =
    let call = said c.args.call.now in
    let front = map string_bytes c.args.front.items in
    let before = map asks c.args.questions.now.items in
    let options = pairs call front (drop c.args.at call.words) in
    let between = map asks c.push_pairs.new.questions.items in
    let last = question call front (is_whole call c.args.at) in
    let one : between ≡ before ++ options =
    c.in_ok-push_pairs.ensures ∙ ap (λ own. before ++ pairs call (map string_bytes own) (drop c.args.at call.words)) c.as_slice.ensures.value in
    let weaker : map asks c.push_question.new.questions.items ≡ between ++ question call front c.is_whole.result ∷ [] → map asks c.push_question.new.questions.items ≡ before ++ asked_as call c.args.at front =
    λ is. is ∙ ap (λ whole. between ++ question call front whole ∷ []) c.is_whole.ensures ∙ ap (λ told. told ++ last ∷ []) one ∙ append_assoc before options (last ∷ []) in
    on_ok_weaker _ weaker c.push_question.ensures
