use Rattle.std.proofs.Common.{◌≡◌, Err, List, Option, Some, ℕ, ap, rules, sym, ◌∙◌}
use Rattle.std.specs.Prelude.{is_none}
use Rattle.tk_session.specs.Reading.{◌>>=◌}
use Rattle.toml.specs.View.{table_view}
use Rattle.panels_bench.proofs.TableLemmas.{if_known, if_lacking, if_unknown, keys_unknown}
use Rattle.panels_bench.proofs.ValueLemmas.{says_err}
use Rattle.panels_bench.specs.Sights.{Sight, looks_in}
use Rattle.panels_text.specs.Tables.{unknown_key}
use Rattle.panels_text.specs.Words.{words_of}
use Rattle.panels_bench.proofs.seeing.sights.Goals as goal

pub returns-in_err-check_keys : goal.returns-in_err-check_keys
returns-in_err-check_keys c =
    let part = c.args.part.now in
    let known = ap (λ (own : List (List ℕ)). is_none (unknown_key part own)) (sym c.known_keys.ensures) ∙ keys_unknown part (words_of c.known_keys.result.now) _ c.in_err-check_keys.field-0.0 c.in_err-check_keys.ensures.unknown in
    let same : c.from_residual.result ≡ Err c.in_err-check_keys.field-0.0 = search rules in
    says_err _ _ _ _ same (λ said. if_unknown _ _ known)

pub returns-in_err-slot : goal.returns-in_err-slot
returns-in_err-slot c =
    let members = table_view c.args.part.now.table.now in
    let same : c.from_residual-in_err-slot.result ≡ Err c.in_err-slot.field-0.0 = search rules in
    says_err _ _ _ _ same (λ said. if_lacking _ _ (ap (λ (own : Option ℕ). own >>= λ slot. looks_in members >>= λ sights. Some (slot, sights)) (c.in_err-slot.ensures said)))

pub returns-in_err-looks : goal.returns-in_err-looks
returns-in_err-looks c =
    let members = table_view c.args.part.now.table.now in
    let same : c.from_residual-in_err-looks.result ≡ Err c.in_err-looks.field-0.0 = search rules in
    says_err _ _ _ _ same (λ said. if_lacking _ _
    (ap (λ (own : Option ℕ). own >>= λ slot. looks_in members >>= λ sights. Some (slot, sights)) c.in_ok-slot.ensures
    ∙ ap (λ (own : Option (List Sight)). own >>= λ sights. Some (c.in_ok-slot.slot, sights)) (c.in_err-looks.ensures said)))

pub returns : goal.returns
returns c =
    let part = c.args.part.now in
    let members = table_view part.table.now in
    let known = ap (λ (own : List (List ℕ)). is_none (unknown_key part own)) (sym c.known_keys.ensures) ∙ ap is_none c.in_ok-check_keys.ensures.known in
    if_known _ _ known
    ∙ (ap (λ (own : Option ℕ). own >>= λ slot. looks_in members >>= λ sights. Some (slot, sights)) c.in_ok-slot.ensures
    ∙ ap (λ (own : Option (List Sight)). own >>= λ sights. Some (c.in_ok-slot.slot, sights)) c.in_ok-looks.ensures)
