use Rattle.std.proofs.Common.{◌≡◌, ◌++◌, drop, map, take}
use Rattle.panels_text.specs.Differences.{counterpart, without_counterpart}
use Rattle.panels_text.proofs.difference.take_alike.Given as goal

-- none of those before tells of the same
abbrev pub invariant-loop-place : goal.invariant-loop-place
invariant-loop-place l = record {
  same : l.others ≡ l.initial.others;
  other : counterpart l.line (map (λ other. other.now) (drop l.place l.others.items)) ≡ counterpart l.line (map (λ other. other.now) l.others.items);
  left : map (λ other. other.now) (take l.place l.others.items) ++ without_counterpart l.line (map (λ other. other.now) (drop l.place l.others.items))
      ≡ without_counterpart l.line (map (λ other. other.now) l.others.items);
}
