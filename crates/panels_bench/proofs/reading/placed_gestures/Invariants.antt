use Rattle.std.proofs.Common.{◌≡◌, ◌++◌, map}
use Rattle.std.specs.Vec.Iter.{into_iter_items}
use Rattle.panels_bench.specs.Entries.{does, happening}
use Rattle.panels_bench.specs.Gestures.{deed}
use Rattle.panels_bench.proofs.reading.placed_gestures.Given as goal

-- those that stand there, and those that are left, are all
abbrev pub invariant-loop-gesture : goal.invariant-loop-gesture
invariant-loop-gesture l =
    map happening l.placed.items ++ map (does l.line l.moment) (map deed (into_iter_items l.gesture-iterator)) ≡ map (does l.line l.moment) (map deed l.fn.gestures.items)
