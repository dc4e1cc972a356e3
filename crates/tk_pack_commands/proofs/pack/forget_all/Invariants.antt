use Rattle.std.proofs.Common.{◌≡◌, length}
use Rattle.tk_packer.specs.Shared.{own_of as packs_of, LeavesOthers}
use Rattle.tk_tree.specs.Shared.{own_of}
use Rattle.tk_pack_commands.specs.Pack.{all_forgotten}
use Rattle.tk_pack_commands.proofs.pack.forget_all.Given as goal

-- forgetting those that are left leads to what forgetting all leads to
abbrev pub invariant-loop-path : goal.invariant-loop-path
invariant-loop-path l = record {
  same : all_forgotten l.rest (own_of l.owner l.windows) (packs_of l.owner l.packs) ≡ all_forgotten l.paths (own_of l.owner l.windows) (packs_of l.owner l.fn.packs);
  others : LeavesOthers l.owner l.fn.packs l.packs;
}

abbrev pub decreases-loop-path : goal.decreases-loop-path
decreases-loop-path l = length l.rest
