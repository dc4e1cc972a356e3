use Rattle.std.proofs.Common.{◌≡◌, length}
use Rattle.std.specs.BTreeSet.{contains}
use Rattle.std.specs.Ordering.{nat_cmp}
use Rattle.tk_packer.specs.Standing.{IsStanding, standing_of}
use Rattle.tk_packer.proofs.Sets.{gap}
use Rattle.tk_packer.proofs.rearranging.rearrange_all.Given as goal

-- what is kept is right, but for what is still to be looked at
abbrev pub invariant-loop-place : goal.invariant-loop-place
invariant-loop-place l = record {
  standing : IsStanding (standing_of l.windows);
  parts : standing_of l.windows ≡ record (standing_of l.initial.windows) { places = l.windows.places.items; rearrange = contains nat_cmp l.windows.rearrange; moved = contains nat_cmp l.windows.moved };
}

abbrev pub decreases-loop-place : goal.decreases-loop-place
decreases-loop-place l = gap (length l.windows.shapes.items) l.windows.rearrange.keys
