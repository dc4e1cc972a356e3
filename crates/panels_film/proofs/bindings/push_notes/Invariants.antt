use Rattle.std.proofs.Common.{◌≡◌, ◌++◌, drop, map}
use Rattle.panels_film.specs.Bindings.{noted, ran_by, told}
use Rattle.panels_film.proofs.bindings.push_notes.Given as goal

abbrev pub invariant-loop-moment : goal.invariant-loop-moment
invariant-loop-moment l =
    map told l.ran.items ++ map (ran_by l.slot l.count) (map (λ note. noted note.0 note.1.now) (drop l.moment-index l.notes))
    ≡ map told l.fn.ran.items ++ map (ran_by l.slot l.count) (map (λ note. noted note.0 note.1.now) l.notes)
