use Rattle.std.proofs.Common.{◌≡◌, ◌++◌, length}
use Rattle.std.specs.Prelude.{map}
use Rattle.std.specs.BTreeSet.{contains}
use Rattle.std.specs.Ordering.{nat_cmp}
use Rattle.tk_packer.specs.Changes.{changes_of, laid_out_shapes}
use Rattle.tk_packer.specs.Standing.{IsStanding, standing_of}
use Rattle.tk_packer.proofs.showing.tell_all.Given as goal

-- what was told, and what is still to be told
abbrev pub invariant-loop-place : goal.invariant-loop-place
invariant-loop-place l = record {
  standing : IsStanding (standing_of l.windows);
  parts : standing_of l.windows ≡ record (standing_of l.initial.windows) { shapes = l.windows.shapes.items; moved = contains nat_cmp l.windows.moved };
  numbers : map (λ shape. shape.number) l.windows.shapes.items ≡ map (λ shape. shape.number) l.initial.windows.shapes.items;
  told :
      l.changes.items ++ changes_of l.windows.shapes.items l.initial.windows.places.items ≡ changes_of l.initial.windows.shapes.items l.initial.windows.places.items;
  laid : laid_out_shapes l.windows.shapes.items l.initial.windows.places.items ≡ laid_out_shapes l.initial.windows.shapes.items l.initial.windows.places.items;
}

abbrev pub decreases-loop-place : goal.decreases-loop-place
decreases-loop-place l = length l.windows.moved.keys
