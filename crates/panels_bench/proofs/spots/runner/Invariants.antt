use Rattle.std.proofs.Common.{◌≡◌, length, reverse}
use Rattle.panels_bench.specs.Stands.{run_by}
use Rattle.panels_bench.proofs.spots.runner.Given as goal

abbrev pub decreases-loop-stand : goal.decreases-loop-stand
decreases-loop-stand l = length l.rest

-- none of those farther out says it
abbrev pub invariant-loop-stand : goal.invariant-loop-stand
invariant-loop-stand l = run_by l.script l.by_timer (reverse l.rest) ≡ run_by l.script l.by_timer (reverse l.stands)
