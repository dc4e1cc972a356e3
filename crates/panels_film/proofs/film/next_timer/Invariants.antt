use Rattle.std.proofs.Common.{◌≡◌, None, drop, map}
use Rattle.panels_film.specs.Films.{earliest_due}
use Rattle.panels_film.proofs.film.next_timer.Given as goal

abbrev pub invariant-loop-section : goal.invariant-loop-section
invariant-loop-section l =
    earliest_due l.frame.moment l.next (map (λ section. section.items) (drop l.section-index l.frame.sections.items))
    ≡ earliest_due l.frame.moment None (map (λ section. section.items) l.frame.sections.items)
