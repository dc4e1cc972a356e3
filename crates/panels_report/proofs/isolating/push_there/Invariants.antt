use Rattle.std.proofs.Common.{◌≡◌, ◌++◌, drop, map, string_bytes}
use Rattle.panels_report.specs.Isolation.{there_words}
use Rattle.panels_report.proofs.isolating.push_there.Given as goal

abbrev pub invariant-loop-difference : goal.invariant-loop-difference
invariant-loop-difference l =
    map string_bytes l.problems.items ++ map (there_words l.there) (map string_bytes (drop l.difference-index l.found))
    ≡ map string_bytes l.initial.problems.items ++ map (there_words l.there) (map string_bytes l.found)
