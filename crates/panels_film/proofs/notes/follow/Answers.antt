use Rattle.std.proofs.Common.{ℕ, ◌∷◌, ◌++◌, [], ap, length, map, take, ◌∙◌, arith}
use Rattle.std.proofs.lemmas.List.{map-append, take_all}
use Rattle.panels_film.specs.Notes.{note_of, notes_from, told}
use Rattle.panels_film.specs.Screens.{at_first, known}
use Rattle.panels_film.proofs.Histories.{came_is, none_noted, one_noted}
use Rattle.panels_film.proofs.notes.follow.Goals as goal

pub loop-event-init : goal.loop-event-init
loop-event-init g c =
    let session = c.args.session.now in
    rw c.new-notes.ensures.items
    (none_noted g.M.AliasMeaning.answer (length c.apps-panels.result.now) (at_first session.apps) session.events c.args.live.held (known c.in_ok-screen.screen) (c.in_ok-screen.ensures ∙ ap at_first c.apps.ensures.apps))

pub loop-event-preserved : goal.loop-event-preserved
loop-event-preserved g c =
    let at = c.loop-event in
    let session = c.args.session.now in
    one_noted g.M.AliasMeaning.answer (length c.apps-panels.result.now) (at_first session.apps) session.events at.event-index c.event-item.result c.args.live.held at.live.held c.noted.new.live.held
    (known at.screen) (known c.take.new.self) (map told at.notes.items) (map told c.push.new.self.items)
    (rw c.events-event-items.ensures.events at c.loop-event-test.true) (rw c.events-event-items.ensures.events at c.event-item.is) at.invariant c.in_ok-noted.ensures.history
    (λ calls begun.
    ap (map told) c.in_ok-push.ensures.items
    ∙ map-append told at.notes.items (c.in_ok-noted.field-0 ∷ [])
    ∙ ap (λ note. map told at.notes.items ++ note ∷ [])
    (came_is c.in_ok-noted.field-0 (note_of g.M.AliasMeaning.answer (length c.apps-panels.result.now) calls (known at.screen) c.event-item.result) (c.in_ok-noted.ensures.getter calls begun)
    (c.in_ok-noted.ensures.changed calls begun)))
    c.take.ensures.known

pub returns : goal.returns
returns g c calls begun =
    let at = c.loop-event in
    let session = c.args.session.now in
    at.invariant.notes_are calls begun
    ∙ ap (λ (n : ℕ). notes_from g.M.AliasMeaning.answer n calls (at_first session.apps) (take at.event-index session.events)) (ap length c.apps-panels.ensures.apps)
    ∙ ap (notes_from g.M.AliasMeaning.answer (length session.apps) calls (at_first session.apps)) (take_all at.event-index session.events (omega (arith, rw c.events-event-items.ensures.events at c.loop-event-test.false)))
