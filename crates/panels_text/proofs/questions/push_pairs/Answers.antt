use Rattle.std.proofs.Common.{◌+◌, ap, map, option_map, string_bytes, ◌∙◌, arith}
use Rattle.std.proofs.lemmas.List.{length-map}
use Rattle.panels_text.specs.Asking.{asks}
use Rattle.panels_text.specs.Roles.{texts_of, word_at}
use Rattle.panels_text.specs.Scripts.{said}
use Rattle.panels_text.proofs.ScriptLemmas.{pairs_step}
use Rattle.panels_text.proofs.questions.push_pairs.Goals as goal

pub loop-place-preserved : goal.loop-place-preserved
loop-place-preserved c =
    let own = c.args.call.now.words.items in
    let place = c.loop-place.place in
    pairs_step (said c.args.call.now) (map string_bytes c.args.front.now) (texts_of own) place c.word_at-option.result.now c.word_at-value.result.now (map asks c.loop-place.questions.items)
    (map asks c.push_pair.new.questions.items) _ (omega (arith, length-map own (option_map string_bytes)))
    (c.word_at-option.ensures ∙ ap (λ words. word_at (texts_of words) place) c.as_slice-words.ensures.value)
    (c.word_at-value.ensures ∙ ap (λ words. word_at (texts_of words) (place + 1)) c.as_slice-words.ensures.value) c.in_ok-push_pair.ensures c.loop-place.invariant
