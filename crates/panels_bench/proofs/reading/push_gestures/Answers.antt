use Rattle.std.proofs.Common.{◌≡◌, [], ◌++◌, List, Some, ap, map, option_map, sym, ℕ, ◌∙◌}
use Rattle.std.proofs.lemmas.List.{map-append}
use Rattle.panels_bench.specs.Entries.{deeds_of, does, happening}
use Rattle.panels_bench.specs.Gestures.{Deed, deed}
use Rattle.panels_text.specs.Tables.{line}
use Rattle.panels_bench.proofs.reading.push_gestures.Goals as goal

pub returns : goal.returns
returns c =
    let part = c.args.part.now in
    let moment : ℕ = c.args.moment in
    let deeds : List Deed = map deed c.in_ok-gestures.gestures.items in
    let said : deeds_of c.args.panels.now moment part ≡ Some (map (does c.line.result moment) deeds) =
    ap (option_map (λ (own : List Deed). map (does (line part []) moment) own)) c.in_ok-gestures.ensures ∙ ap (λ own. Some (map (does own moment) deeds)) (sym c.line.ensures) in
    (map (does c.line.result moment) deeds, said, ap (map happening) c.in_ok-append.ensures.items ∙ (map-append happening _ _ ∙ ap (λ own. map happening c.args.placed.now.items ++ own) c.in_ok-more.ensures))
