use Rattle.std.proofs.Common.{◌≡◌, drop, map, reverse}
use Rattle.panels_text.specs.Indents.{displaced}
use Rattle.panels_text.proofs.UnreadLemmas.{displaced_by}
use Rattle.panels_text.proofs.indents.displaced.Given as goal

-- what is left decides
abbrev pub invariant-loop-row : goal.invariant-loop-row
invariant-loop-row l = displaced_by l.line (reverse l.opened.items) (map (λ row. row.now) (drop l.row-index l.row-items)) ≡ displaced l.first l.script
