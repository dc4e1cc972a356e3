use Rattle.std.proofs.Common.{suc}
use Rattle.std.specs.Option.{option_map_or}
use Rattle.tk_tree.specs.Shared.{own_of}
use Rattle.tk_tree.proofs.Corners.{IsAddedUp}
use Rattle.tk_tree.proofs.windows.Windows.corner.Given as goal

abbrev pub invariant-loop-up : goal.invariant-loop-up
invariant-loop-up l = IsAddedUp (own_of l.win.owner l.self) l.win.number l.x l.y l.up

abbrev pub decreases-loop-up : goal.decreases-loop-up
decreases-loop-up l = option_map_or (λ number. suc number) l.up 0
