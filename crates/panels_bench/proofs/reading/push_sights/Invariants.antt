use Rattle.std.proofs.Common.{◌≤◌, drop, map}
use Rattle.panels_bench.proofs.ValueLemmas.{Left}
use Rattle.panels_bench.specs.Entries.{sights_from, happening}
use Rattle.panels_bench.proofs.reading.push_sights.Given as goal

-- no moment is behind the end; what was added, and what is left, is all
abbrev pub invariant-loop-part : goal.invariant-loop-part
invariant-loop-part l = record {
  within : l.before ≤ l.end;
  all : Left (map happening l.placed.items) (sights_from l.panels l.end l.before (drop l.part-index l.parts)) (map happening l.initial.placed.items) (sights_from l.panels l.end 0 l.parts);
}
