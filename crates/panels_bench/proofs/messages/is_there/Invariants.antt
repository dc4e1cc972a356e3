use Rattle.std.proofs.Common.{◌≡◌, drop, map}
use Rattle.panels_bench.specs.Messages.{is_there}
use Rattle.panels_bench.proofs.messages.is_there.Given as goal

-- none before begins so
abbrev pub invariant-loop-line : goal.invariant-loop-line
invariant-loop-line l = is_there l.front (map (λ line. line.now) (drop l.line-index l.lines)) ≡ is_there l.front (map (λ line. line.now) l.lines)
