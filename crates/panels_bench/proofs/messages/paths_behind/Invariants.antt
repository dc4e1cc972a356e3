use Rattle.std.proofs.Common.{◌≡◌, length, map}
use Rattle.panels_bench.specs.Messages.{paths_behind}
use Rattle.panels_bench.proofs.messages.paths_behind.Given as goal

abbrev pub decreases-loop-rest : goal.decreases-loop-rest
decreases-loop-rest l = length l.rest

-- none before is it
abbrev pub invariant-loop-rest : goal.invariant-loop-rest
invariant-loop-rest l = paths_behind l.path (map (λ path. path.now) l.rest) ≡ paths_behind l.path (map (λ path. path.now) l.paths)
