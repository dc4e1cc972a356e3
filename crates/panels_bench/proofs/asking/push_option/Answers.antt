use Rattle.std.proofs.Common.{◌≡◌, [], ◌∷◌, List, Option, Some, ap, map, option_map, string_bytes, ℕ, ◌∙◌}
use Rattle.std.proofs.lemmas.List.{map-append}
use Rattle.tk_session.specs.Reading.{◌>>=◌}
use Rattle.toml.specs.View.{table_view, view}
use Rattle.panels.specs.Asked.{TextTold}
use Rattle.panels_bench.specs.Sights.{AskedSight, OptionOf, asks, option_said, sight}
use Rattle.panels_bench.specs.Values.{one, short}
use Rattle.panels_bench.proofs.asking.push_option.Goals as goal

pub returns : goal.returns
returns c =
    let members = table_view c.args.part.now.table.now in
    let text : List ℕ = c.in_ok-text.text in
    let name : List ℕ = c.in_ok-name.name in
    let path : List ℕ = string_bytes c.in_ok-window.window in
    let said : option_said members c.args.name.now (view c.args.value.now) ≡ Some (AskedSight (OptionOf path name) (TextTold text) ∷ []) =
    ap (λ (own : Option (List ℕ)). own >>= λ wanted. short c.args.name.now >>= λ other. asks members (λ window. OptionOf window other) (TextTold wanted)) c.in_ok-text.ensures
    ∙ (ap (λ (own : Option (List ℕ)). own >>= λ other. asks members (λ window. OptionOf window other) (TextTold text)) c.in_ok-name.ensures.said
    ∙ ap (λ (own : Option (List ℕ)). one (option_map (λ window. AskedSight (OptionOf window name) (TextTold text)) own)) c.in_ok-window.ensures) in
    (AskedSight (OptionOf path name) (TextTold text) ∷ [], said, ap (map sight) c.in_ok-push.ensures.items ∙ map-append sight _ _)
