use Rattle.std.proofs.Common.{◌≡◌, length}
use Rattle.tk_packer.specs.Shared.{own_of, LeavesOthers}
use Rattle.std.specs.Prelude.{None}
use Rattle.tk_pack_commands.specs.Options.{last_sibling}
use Rattle.tk_pack_commands.specs.Places.{packed_all}
use Rattle.tk_pack_commands.proofs.places.pack_all.Given as goal

-- packing those that are left leads to what packing all leads to
abbrev pub invariant-loop-target : goal.invariant-loop-target
invariant-loop-target l = record {
  same : packed_all l.settings l.beside l.rest (own_of l.owner l.packs) ≡ packed_all l.settings (last_sibling None l.settings) l.targets (own_of l.owner l.fn.packs);
  others : LeavesOthers l.owner l.fn.packs l.packs;
}

abbrev pub decreases-loop-target : goal.decreases-loop-target
decreases-loop-target l = length l.rest
