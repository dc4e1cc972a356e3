use Rattle.std.proofs.Common.{◌≡◌, ◌∷◌, ◌++◌, [], List, ℕ, Vec, Global, ap, sym, drop, length, map, take, ◌∙◌}
use Rattle.tk_host.specs.Held.{AdvanceTo, held_after}
use Rattle.tk_host.specs.Sections.{sections_after}
use Rattle.tk_session.specs.declared.session.EventLine.{EventLine}
use Rattle.tkhost.specs.Calls.{lining}
use Rattle.panels_film.specs.Films.{come, shown_at}
use Rattle.panels_film.specs.Looks.{told_all}
use Rattle.panels_film.specs.Moments.{count_until}
use Rattle.panels_film.proofs.Filming.{looks_are, shown_is}
use Rattle.panels_film.proofs.film.frame_next.Goals as goal

pub returns-clause-history : goal.returns-clause-history
returns-clause-history g c calls begun =
    let before = c.args.before in
    let moment = c.args.moment in
    let handed =
    c.between.ensures ∙ ap (λ (n : ℕ). drop before (take n c.events-events.result.now)) c.count_until-count.ensures
    ∙ ap (λ (events : List EventLine). drop before (take (count_until moment events) events)) c.events-events.ensures.events in
    rw (sym handed) (c.in_ok-reach.ensures.history (calls ++ lining c.between.result.now) (c.in_ok-hand.ensures.history calls begun))

pub returns-clause-shown : goal.returns-clause-shown
returns-clause-shown g c calls begun =
    let before = c.args.before in
    let moment = c.args.moment in
    let plan = c.args.session.now in
    let answer = g.M.AliasMeaning.answer in
    let handed =
    c.between.ensures ∙ ap (λ (n : ℕ). drop before (take n c.events-events.result.now)) c.count_until-count.ensures
    ∙ ap (λ (events : List EventLine). drop before (take (count_until moment events) events)) c.events-events.ensures.events in
    let sections : map (λ (section : Vec ℕ Global). section.items) c.in_ok-frame.frame.sections.items ≡ take (length plan.apps) (sections_after answer (come plan calls before moment)) =
    rw (sym handed, sym c.apps.ensures.apps)
    (c.in_ok-frame.ensures.history ((calls ++ lining c.between.result.now) ++ AdvanceTo moment ∷ [])
    (c.in_ok-reach.ensures.history (calls ++ lining c.between.result.now) (c.in_ok-hand.ensures.history calls begun))) in
    let held : c.reach.new.live.held ≡ held_after answer (come plan calls before moment) =
    rw (sym handed) (c.in_ok-reach.ensures.history (calls ++ lining c.between.result.now) (c.in_ok-hand.ensures.history calls begun)) in
    shown_is c.in_ok-frame.frame (shown_at answer plan (come plan calls before moment) moment) c.in_ok-frame.ensures.moment
    (c.in_ok-frame.ensures.count ∙ c.count_until-count.ensures ∙ ap (count_until moment) c.events-events.ensures.events) sections
    (looks_are (told_all c.in_ok-frame.frame.looks.items) c.reach.new.live.held (held_after answer (come plan calls before moment))
    (map (λ (section : Vec ℕ Global). section.items) c.in_ok-frame.frame.sections.items) (take (length plan.apps) (sections_after answer (come plan calls before moment)))
    c.in_ok-frame.ensures.looks held sections)
