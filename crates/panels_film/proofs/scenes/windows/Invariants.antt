use Rattle.std.proofs.Common.{◌≡◌, ◌++◌, map}
use Rattle.std.specs.Vec.Iter.{into_iter_items}
use Rattle.panels.specs.Shapes.{shapes_of, shown}
use Rattle.panels_film.specs.Scenes.{drawn}
use Rattle.panels_film.proofs.scenes.windows.Given as goal

-- those that were drawn, and those that are left, are all
abbrev pub invariant-loop-shape : goal.invariant-loop-shape
invariant-loop-shape l = map drawn l.windows.items ++ map shown (into_iter_items l.shape-iterator) ≡ shapes_of l.section
