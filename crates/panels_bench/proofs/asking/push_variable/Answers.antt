use Rattle.std.proofs.Common.{◌≡◌, [], ◌∷◌, List, Option, Some, ap, map, ℕ, ◌∙◌}
use Rattle.std.proofs.lemmas.List.{map-append}
use Rattle.tk_session.specs.Reading.{◌>>=◌}
use Rattle.toml.specs.View.{view}
use Rattle.panels.specs.Asked.{Told, told_by}
use Rattle.panels_bench.specs.Sights.{AskedSight, VariableOf, sight, variable_said}
use Rattle.panels_bench.specs.Values.{short}
use Rattle.panels_bench.proofs.asking.push_variable.Goals as goal

pub returns : goal.returns
returns c =
    let wanted : Told = told_by c.in_ok-wanted.wanted in
    let name : List ℕ = c.in_ok-name.name in
    let said : variable_said c.args.name.now (view c.args.value.now) ≡ Some (AskedSight (VariableOf name) wanted ∷ []) =
    ap (λ (own : Option Told). own >>= λ one. short c.args.name.now >>= λ other. Some (AskedSight (VariableOf other) one ∷ [])) c.in_ok-wanted.ensures
    ∙ ap (λ (own : Option (List ℕ)). own >>= λ other. Some (AskedSight (VariableOf other) wanted ∷ [])) c.in_ok-name.ensures.said in
    (AskedSight (VariableOf name) wanted ∷ [], said, ap (map sight) c.in_ok-push.ensures.items ∙ map-append sight _ _)
