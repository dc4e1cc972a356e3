use Rattle.std.proofs.Common.{◌≡◌, ◌++◌, List, drop, map}
use Rattle.tk_host.specs.Held.{Call, held_after}
use Rattle.panels.specs.Course.{section_at}
use Rattle.panels_film.specs.Bindings.{known_by, ran_since, told}
use Rattle.panels_film.proofs.bindings.push_ran.Given as goal

-- what was told and found, and what is left, are all
abbrev pub invariant-loop-slot : goal.invariant-loop-slot
invariant-loop-slot g l =
    (calls : List (Call g.row.M.Denot)) → l.live.held ≡ held_after g.M.AliasMeaning.answer calls
    → (map told l.ran.items ++ ran_since (section_at g.M.AliasMeaning.answer calls) l.count l.slot (drop l.slot l.known)
    ≡ map told l.fn.ran.items ++ ran_since (section_at g.M.AliasMeaning.answer calls) l.count 0 l.known)
    × (l.found.items ++ known_by (section_at g.M.AliasMeaning.answer calls) l.slot (drop l.slot l.known) ≡ known_by (section_at g.M.AliasMeaning.answer calls) 0 l.known)
