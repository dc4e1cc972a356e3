use Rattle.std.proofs.Common.{◌≡◌, List, map}
use Rattle.tk_host.specs.Held.{Call, held_after}
use Rattle.panels_film.specs.Bindings.{none_known, ran_from, told}
use Rattle.panels_film.proofs.Noting.{Ran}
use Rattle.panels_film.proofs.bindings.ran_of.Given as goal

abbrev pub invariant-loop-number : goal.invariant-loop-number
invariant-loop-number g l =
    (calls : List (Call g.row.M.Denot)) → l.fn.live.held ≡ held_after g.M.AliasMeaning.answer calls
    → Ran g.M.AliasMeaning.answer l.events l.session.end (ran_from g.M.AliasMeaning.answer calls 0 (none_known l.session.apps) l.events l.session.end) l.number l.known.items l.live.held (map told l.ran.items)
