use Rattle.std.proofs.Common.{◌≡◌, List, map, take}
use Rattle.tk_host.specs.Held.{Call, held_after}
use Rattle.tk_host.specs.Sections.{sections_after}
use Rattle.panels_film.proofs.playing.sections_now.Given as goal

abbrev pub invariant-loop-slot : goal.invariant-loop-slot
invariant-loop-slot g l =
    (calls : List (Call g.row.M.Denot)) → l.live.held ≡ held_after g.M.AliasMeaning.answer calls
    → map (λ section. section.items) l.sections.items ≡ take l.slot (sections_after g.M.AliasMeaning.answer calls)
