use Rattle.std.proofs.Common.{◌≡◌, ◌++◌, drop, map}
use Rattle.panels_film.specs.Looks.{looks_from, told_all}
use Rattle.panels_film.proofs.film.looks_now.Given as goal

-- those that were told, and those that are left, are all
abbrev pub invariant-loop-slot : goal.invariant-loop-slot
invariant-loop-slot g l =
    told_all l.looks.items ++ looks_from l.live.held l.slot (map (λ section. section.items) (drop l.slot l.sections))
    ≡ looks_from l.live.held 0 (map (λ section. section.items) l.sections)
