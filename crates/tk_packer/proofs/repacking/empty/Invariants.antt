use Rattle.std.proofs.Common.{◌≡◌, true}
use Rattle.std.specs.BTreeSet.{contains}
use Rattle.std.specs.Ordering.{nat_cmp}
use Rattle.tk_packer.specs.Standing.{StandsWith, standing_of}
use Rattle.tk_packer.proofs.repacking.empty.Given as goal

-- those that are left are packed
abbrev pub invariant-loop-left : goal.invariant-loop-left
invariant-loop-left l = record {
  standing : StandsWith l.master l.left (standing_of l.windows);
  parts : standing_of l.windows ≡ record (standing_of l.initial.windows) {
    places = l.windows.places.items;
    slots = l.windows.slots.items;
    rearrange = contains nat_cmp l.windows.rearrange;
    moved = contains nat_cmp l.windows.moved;
  };
  marked : contains nat_cmp l.windows.rearrange l.master ≡ true;
}

abbrev pub decreases-loop-left : goal.decreases-loop-left
decreases-loop-left l = l.left
