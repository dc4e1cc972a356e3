use Rattle.std.proofs.Common.{◌≡◌, ◌++◌, map}
use Rattle.std.specs.Vec.Iter.{into_iter_items}
use Rattle.panels_film.specs.Bindings.{noting}
use Rattle.panels_film.proofs.bindings.noting_panels.Given as goal

-- those that note, and those that are left, are all
abbrev pub invariant-loop-panel : goal.invariant-loop-panel
invariant-loop-panel l = l.others.items ++ map noting (into_iter_items l.panel-iterator) ≡ map noting l.panels
