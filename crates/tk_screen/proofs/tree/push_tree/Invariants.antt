use Rattle.std.proofs.Common.{◌≡◌, ◌++◌, take}
use Rattle.std.specs.Prelude.{flat_map}
use Rattle.tk_screen.specs.Shared.{own_of}
use Rattle.tk_screen.specs.Shapes.{pre_order}
use Rattle.tk_screen.specs.Tree.{line_at}
use Rattle.tk_screen.proofs.tree.push_tree.Given as goal

-- what was read is written
abbrev pub invariant-loop-number : goal.invariant-loop-number
invariant-loop-number l =
    l.out.items ≡ l.fn.out.items ++ flat_map (line_at (own_of l.slot l.screen) l.scopes) (take l.number-index (pre_order (own_of l.slot l.screen).tree))
