use Rattle.std.proofs.Common.{◌≡◌, ◌++◌, suc, Some}
use Rattle.std.specs.Option.{option_map_or}
use Rattle.std.specs.Prelude.{reverse}
use Rattle.tk_tree.specs.Shared.{own_of}
use Rattle.tk_tree.specs.Ways.{way_up}
use Rattle.tk_tree.proofs.windows.Windows.way_to.Given as goal

-- what was gone up, and what is still to go
abbrev pub invariant-loop-up : goal.invariant-loop-up
invariant-loop-up l =
    l.way.items ++ way_up l.up (reverse (own_of l.win.owner l.self).windows) ≡ way_up (Some l.win.number) (reverse (own_of l.win.owner l.self).windows)

abbrev pub decreases-loop-up : goal.decreases-loop-up
decreases-loop-up l = option_map_or (λ number. suc number) l.up 0
