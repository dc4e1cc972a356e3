use Rattle.std.proofs.Common.{◌≡◌, ap, map, string_bytes, ◌∙◌}
use Rattle.panels_text.specs.Asking.{procedures_in, questions_in}
use Rattle.panels_text.specs.Scripts.{calls_of, said}
use Rattle.panels_text.specs.Words.{words_of}
use Rattle.panels_text.proofs.questions.questions_of.Goals as goal

pub returns-clause-questions : goal.returns-clause-questions
returns-clause-questions c =
    let script = calls_of c.args.script.now in
    let served = words_of c.args.served.now in
    let calls : map said c.as_slice-calls.result.now ≡ script = ap (map said) c.as_slice-calls.ensures.value ∙ c.in_ok-found.ensures.calls in
    let own : map string_bytes c.as_slice-own.result.now ≡ procedures_in served script =
    ap (map string_bytes) c.as_slice-own.ensures.value ∙ (c.in_ok-procedures.ensures ∙ ap (procedures_in served) calls) in
    c.in_ok-questions.ensures ∙ (ap (λ procedures. questions_in procedures (map said c.as_slice-calls.result.now)) own ∙ ap (questions_in (procedures_in served script)) calls)
