use Rattle.std.proofs.Common.{◌≡◌, ◌++◌, drop, map}
use Rattle.panels_film.specs.Scenes.{panels_from, placed}
use Rattle.panels_film.proofs.scenes.drawn_panels.Given as goal

-- those that were drawn, and those that are left, are all
abbrev pub invariant-loop-slot : goal.invariant-loop-slot
invariant-loop-slot l =
    map placed l.drawn.items ++ panels_from l.screen.keys l.frame.sections.items l.slot (drop l.slot l.screen.rects.items)
    ≡ panels_from l.screen.keys l.frame.sections.items 0 l.screen.rects.items
