use Rattle.std.proofs.Common.{◌≡◌, ◌++◌, drop, map}
use Rattle.panels.specs.Shapes.{shapes_from, shown}
use Rattle.panels.proofs.shape.shapes_in.Given as goal

-- those that were told, and those of the lines that are left, are all
abbrev pub invariant-loop-index : goal.invariant-loop-index
invariant-loop-index l =
    map shown l.shapes.items ++ shapes_from l.panes l.index (map (λ line. line.now) (drop l.index l.lines)) ≡ shapes_from l.panes 0 (map (λ line. line.now) l.lines)
