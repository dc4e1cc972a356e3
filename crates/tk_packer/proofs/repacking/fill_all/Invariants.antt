use Rattle.std.proofs.Common.{◌≡◌, length}
use Rattle.std.specs.BTreeSet.{contains}
use Rattle.std.specs.Ordering.{nat_cmp}
use Rattle.tk_packer.specs.Groups.{slaves_by}
use Rattle.tk_packer.specs.Standing.{ArePackedBut, IsStanding, standing_of}
use Rattle.tk_packer.proofs.repacking.fill_all.Given as goal

-- in the windows that don't wait what the table says is packed
abbrev pub invariant-loop-place : goal.invariant-loop-place
invariant-loop-place l = record {
  standing : IsStanding (standing_of l.windows);
  size : l.windows.size ≡ l.initial.windows.size;
  shapes : l.windows.shapes.items ≡ l.initial.windows.shapes.items;
  packs :
      ArePackedBut (contains nat_cmp l.emptied) (slaves_by l.own) (length l.windows.shapes.items) l.windows.shapes.items l.windows.slaves.items;
}

abbrev pub decreases-loop-place : goal.decreases-loop-place
decreases-loop-place l = length l.emptied.keys
