use Rattle.std.proofs.Common.{◌≡◌, ◌++◌, length}
use Rattle.std.specs.Prelude.{map}
use Rattle.tk_tree.specs.Shared.{own_of as tree_of}
use Rattle.tk_window_commands.specs.Winfo.{path_at}
use Rattle.tk_window_commands.proofs.winfo_told.paths_of.Given as goal

abbrev pub invariant-loop-rest : goal.invariant-loop-rest
invariant-loop-rest l = l.paths ++ map (path_at (tree_of l.slot l.windows)) l.rest ≡ map (path_at (tree_of l.slot l.windows)) l.numbers

abbrev pub decreases-loop-rest : goal.decreases-loop-rest
decreases-loop-rest l = length l.rest
