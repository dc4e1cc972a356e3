use Rattle.std.proofs.Common.{◌≡◌, Err, List, Option, Some, ap, rules, subst, sym, ℕ, ◌∙◌}
use Rattle.tk_session.specs.Reading.{◌>>=◌}
use Rattle.panels_bench.proofs.KeyLemmas.{struck_last}
use Rattle.panels_bench.proofs.ValueLemmas.{says_err}
use Rattle.panels_bench.specs.Gestures.{chord_named}
use Rattle.panels_bench.specs.Values.{Says}
use Rattle.panels_bench.proofs.typing.struck_words.Goals as goal

pub returns-in_err-held : goal.returns-in_err-held
returns-in_err-held c =
    let same : c.from_residual.result ≡ Err c.in_err-held.field-0.0 = search rules in
    says_err _ _ _ _ same (λ said. struck_last c.args.words.now c.in-Some.others.now c.in-Some.name.now c.in-Some.ensures.cases.0 ∙ ap (λ (own : Option (List ℕ)). own >>= λ held. chord_named held c.in-Some.name.now.now) (c.in_err-held.ensures said))

pub returns : goal.returns
returns c =
    let name : List ℕ = c.in-Some.name.now.now in
    let here = struck_last c.args.words.now c.in-Some.others.now c.in-Some.name.now c.in-Some.ensures.cases.0 ∙ (ap (λ (own : Option (List ℕ)). own >>= λ held. chord_named held name) c.in_ok-held.ensures ∙ ap (λ held. chord_named held name) (sym c.as_slice.ensures.value)) in
    subst (λ (said : Option _). Says (λ lines. lines.items) c.chord_named.result said) (sym here) c.chord_named.ensures
