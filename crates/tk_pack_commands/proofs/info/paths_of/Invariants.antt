use Rattle.std.proofs.Common.{◌≡◌, ◌++◌, drop}
use Rattle.tk_tree.specs.Shared.{own_of}
use Rattle.tk_pack_commands.specs.Info.{paths_of}
use Rattle.tk_pack_commands.proofs.info.paths_of.Given as goal

-- the paths so far, with those of the rest
abbrev pub invariant-loop-packed : goal.invariant-loop-packed
invariant-loop-packed l =
    l.paths ++ paths_of (own_of l.owner l.windows) (drop l.packed-index l.slaves) ≡ paths_of (own_of l.owner l.windows) l.slaves
