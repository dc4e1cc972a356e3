use Rattle.std.proofs.Common.{map}
use Rattle.panels_film.specs.Notes.{told}
use Rattle.panels_film.specs.Screens.{at_first, known}
use Rattle.panels_film.proofs.Histories.{Noted}
use Rattle.panels_film.proofs.notes.follow.Given as goal

-- those up to the index were told
abbrev pub invariant-loop-event : goal.invariant-loop-event
invariant-loop-event g l =
    Noted g.M.AliasMeaning.answer l.panels (at_first l.session.apps) l.session.events l.event-index l.fn.live.held l.live.held (known l.screen) (map told l.notes.items)
