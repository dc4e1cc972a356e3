use Rattle.std.proofs.Common.{◌≡◌, drop, map}
use Rattle.panels.specs.Panes.{panes_from, panes_of}
use Rattle.panels.proofs.pane.panes_of.Given as goal

abbrev pub invariant-loop-line : goal.invariant-loop-line
invariant-loop-line l =
    panes_from (map (λ line. line.now) l.lines) l.panes.items (drop l.line-index (map (λ line. line.now) l.lines)) ≡ panes_of (map (λ line. line.now) l.lines)
