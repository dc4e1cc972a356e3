use Rattle.std.proofs.Common.{◌≡◌, ◌++◌, drop, map}
use Rattle.panels_bench.specs.Messages.{paths_among}
use Rattle.panels_bench.proofs.messages.paths_among.Given as goal

-- what was added, and what is left, is all
abbrev pub invariant-loop-line : goal.invariant-loop-line
invariant-loop-line l =
    map (λ path. path.now) l.paths.items ++ paths_among (map (λ line. line.now) (drop l.line-index l.lines)) ≡ paths_among (map (λ line. line.now) l.lines)
