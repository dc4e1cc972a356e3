use Rattle.std.proofs.Common.{◌≡◌, Err, List, ℕ, ap, eqb, length, rules, sym, ◌∙◌}
use Rattle.std.proofs.lemmas.Bool.{eq-eqb, ne_eqb}
use Rattle.std.specs.Prelude.{is_none}
use Rattle.toml.specs.View.{table_view}
use Rattle.panels_bench.proofs.TableLemmas.{if_lacking, if_none, if_other, if_two, keys_unknown}
use Rattle.panels_bench.proofs.ValueLemmas.{keys_count, says_err}
use Rattle.panels_text.specs.Tables.{keys_of, unknown_key}
use Rattle.panels_text.specs.Words.{words_of}
use Rattle.panels_bench.proofs.doing.gestures.Goals as goal

pub returns-in_err-check_keys : goal.returns-in_err-check_keys
returns-in_err-check_keys c =
    let part = c.args.part.now in
    let known = ap (λ (own : List (List ℕ)). is_none (unknown_key part own)) (sym c.known_keys.ensures) ∙ keys_unknown part (words_of c.known_keys.result.now) _ c.in_err-check_keys.field-0.0 c.in_err-check_keys.ensures.unknown in
    let same : c.from_residual.result ≡ Err c.in_err-check_keys.field-0.0 = search rules in
    says_err _ _ _ _ same (λ said. if_none _ _ _ known)

pub returns-in_err-found : goal.returns-in_err-found
returns-in_err-found c =
    let same : c.from_residual-in_err-found.result ≡ Err c.in_err-found.field-0.0 = search rules in
    says_err _ _ _ _ same (λ said. if_lacking _ _ (c.in_err-found.ensures said))

pub returns-then-count-ne2 : goal.returns-then-count-ne2
returns-then-count-ne2 c = λ said.
    let part = c.args.part.now in
    let known = ap (λ (own : List (List ℕ)). is_none (unknown_key part own)) (sym c.known_keys.ensures) ∙ ap is_none c.in_ok-check_keys.ensures.known in
    let count : length (keys_of (table_view part.table.now)) ≡ c.len-count.result = keys_count part.table.now.entries ∙ sym c.len-count.ensures.len in
    if_other _ _ _ known (ap (λ own. eqb own 2) count ∙ ne_eqb _ 2 c.if-count-ne2.true)

pub returns : goal.returns
returns c =
    let part = c.args.part.now in
    let members = table_view part.table.now in
    let known = ap (λ (own : List (List ℕ)). is_none (unknown_key part own)) (sym c.known_keys.ensures) ∙ ap is_none c.in_ok-check_keys.ensures.known in
    let count : length (keys_of members) ≡ c.len-count.result = keys_count part.table.now.entries ∙ sym c.len-count.ensures.len in
    if_two _ _ _ known (ap (λ own. eqb own 2) count ∙ eq-eqb _ 2 c.if-count-ne2.false) ∙ c.in_ok-found.ensures
