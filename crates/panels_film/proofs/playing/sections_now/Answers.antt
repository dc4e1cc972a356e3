use Rattle.std.proofs.Common.{◌∷◌, ◌++◌, [], ap, map, sym, ◌∙◌, Vec, Global, ℕ}
use Rattle.std.proofs.lemmas.List.{map-append}
use Rattle.tk_host.specs.Sections.{sections_after}
use Rattle.panels_film.proofs.Histories.{one_there}
use Rattle.panels_film.proofs.playing.sections_now.Goals as goal

pub loop-slot-preserved : goal.loop-slot-preserved
loop-slot-preserved g c calls begun =
    let at = c.loop-slot in
    let all = sections_after g.M.AliasMeaning.answer calls in
    let section = c.in_ok-section_of.field-0 in
    ap (map (λ (text : Vec ℕ Global). text.items)) c.in_ok-push.ensures.items
    ∙ map-append (λ (text : Vec ℕ Global). text.items) at.sections.items (section ∷ [])
    ∙ ap (λ sections. sections ++ section.items ∷ []) (at.invariant calls begun)
    ∙ sym (one_there all at.slot section.items (c.in_ok-section_of.ensures.history calls begun))
