use Rattle.std.proofs.Common.{◌≡◌, ◌++◌, ◌∷◌, ◌∙◌, List, Option, Some, ap, drop, reverse, string_bytes, subst, sym, ℕ}
use Rattle.std.proofs.lemmas.List.{drop_more}
use Rattle.std.specs.Prelude.{codes}
use Rattle.panels.specs.declared.ending.Stand.{Stand}
use Rattle.panels_bench.specs.Stands.{ArePlaceWords, StandsAt, run_by}
use Rattle.panels_bench.proofs.spots.place_words.Goals as goal

pub returns : goal.returns
returns c =
    let script = c.args.script.now in
    let stands = c.args.stands.now in
    let first : Stand = c.innermost-item.result in
    let here : stands ≡ first ∷ drop 1 stands = drop_more stands 0 first c.in-len1-up.len_at_least ∙ ap (λ own. own ∷ drop 1 stands) (sym c.innermost-item.is) in
    let by : c.words_by-by.result.now ≡ run_by script c.args.by_timer (reverse (first ∷ drop 1 stands)) =
    c.words_by-by.ensures ∙ (c.in_ok-runner.ensures ∙ ap (λ own. run_by script c.args.by_timer (reverse own)) here) in
    let words = string_bytes c.in_ok-words.words in
    let callers = string_bytes c.in_ok-callers.callers in
    let P : List Stand → Type 0 = λ own. ArePlaceWords c.args.label.now script c.args.by_timer own (Some c.in_ok-format.field-0) in
    subst P (sym here) (record {
      place = c.place_in-at.result;
      words = words;
      callers = callers;
      stands = subst (λ own. StandsAt script own c.place_in-at.result) c.as_str.ensures.value c.place_in-at.ensures;
      told = c.in_ok-words.ensures;
      is = c.in_ok-format.ensures.ok ∙ ap (λ own. words ++ (callers ++ (codes "\n      run by " ++ own))) by;
    })
