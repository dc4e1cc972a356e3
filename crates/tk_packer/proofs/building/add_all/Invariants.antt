use Rattle.std.proofs.Common.{◌≡◌, ℕ, ◌<◌, ◌≤◌, List, [], Some}
use Rattle.std.specs.Prelude.{slice_get}
use Rattle.tk_packer.specs.declared.shape.Shape.{Shape}
use Rattle.tk_packer.specs.declared.standing.Slave.{Slave}
use Rattle.tk_packer.specs.Groups.{slaves_in}
use Rattle.tk_packer.specs.Standing.{IsStanding, packed_of, standing_of}
use Rattle.tk_packer.proofs.building.add_all.Given as goal

-- what is packed in the windows so far is, and nothing in the others
abbrev pub invariant-loop-place : goal.invariant-loop-place
invariant-loop-place l = record {
  standing : IsStanding (standing_of l.windows);
  size : l.windows.size ≡ l.initial.windows.size;
  shapes : l.windows.shapes.items ≡ l.initial.windows.shapes.items;
  before :
      (q : ℕ) (shape : Shape) (list : List Slave) → q < l.place → slice_get l.windows.shapes.items q ≡ Some shape → slice_get l.windows.slaves.items q ≡ Some list
      → packed_of list ≡ slaves_in l.owner l.packs shape.number;
  behind : (q : ℕ) (list : List Slave) → l.place ≤ q → slice_get l.windows.slaves.items q ≡ Some list → list ≡ [];
}
