use Rattle.std.proofs.Common.{◌≡◌, ◌++◌, map}
use Rattle.std.specs.Vec.Iter.{into_iter_items}
use Rattle.panels_bench.proofs.reading.parted.Given as goal

-- those that stand there, and those that are left, are all
abbrev pub invariant-loop-placed : goal.invariant-loop-placed
invariant-loop-placed l = record {
  lines : l.lines.items ++ map (λ own. own.line) (into_iter_items l.placed-iterator) ≡ map (λ own. own.line) l.fn.placed.items;
  entries : l.entries.items ++ map (λ own. own.entry) (into_iter_items l.placed-iterator) ≡ map (λ own. own.entry) l.fn.placed.items;
}
