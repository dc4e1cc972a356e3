use Rattle.std.proofs.Common.{◌≡◌, length}
use Rattle.tk_tree.specs.Shared.{own_of}
use Rattle.tk_pack_commands.specs.Targets.{targets_in}
use Rattle.tk_pack_commands.proofs.StepLemmas.{items_behind}
use Rattle.tk_pack_commands.proofs.targets.targets_in.Given as goal

-- the windows found so far, with those of the paths that are left
abbrev pub invariant-loop-path : goal.invariant-loop-path
invariant-loop-path l = items_behind l.targets.items (targets_in l.rest (own_of l.owner l.windows)) ≡ targets_in l.paths (own_of l.owner l.windows)

abbrev pub decreases-loop-path : goal.decreases-loop-path
decreases-loop-path l = length l.rest
