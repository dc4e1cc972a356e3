use Rattle.std.proofs.Common.{◌≡◌, [], ◌∷◌, List, Some, ap, map, option_map, sym, ℕ, ◌∙◌}
use Rattle.std.proofs.lemmas.List.{map-append}
use Rattle.panels_bench.specs.Entries.{happening, sees, sights_of}
use Rattle.panels_bench.specs.Sights.{Sight, sight}
use Rattle.panels_text.specs.Tables.{line}
use Rattle.panels_bench.proofs.reading.push_sight.Goals as goal

pub returns : goal.returns
returns c =
    let part = c.args.part.now in
    let moment : ℕ = c.args.moment in
    let seen : ℕ × List Sight = (c.in_ok-slot.slot, map sight c.in_ok-slot.looks.items) in
    let said : sights_of c.args.panels.now moment part ≡ Some (sees c.line-line.result moment seen ∷ []) =
    ap (option_map (λ (own : ℕ × List Sight). sees (line part []) moment own ∷ [])) c.in_ok-slot.ensures ∙ ap (λ own. Some (sees own moment seen ∷ [])) (sym c.line-line.ensures) in
    (sees c.line-line.result moment seen ∷ [], said, ap (map happening) c.in_ok-push.ensures.items ∙ map-append happening _ _)
