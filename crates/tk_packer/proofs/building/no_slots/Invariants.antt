use Rattle.std.proofs.Common.{◌≡◌, ℕ, Option, None, Some, length}
use Rattle.std.specs.Prelude.{slice_get}
use Rattle.tk_packer.specs.declared.standing.Slot.{Slot}
use Rattle.tk_packer.proofs.building.no_slots.Given as goal

abbrev pub invariant-loop-place : goal.invariant-loop-place
invariant-loop-place l = record {
  long : length l.slots.items ≡ l._place;
  each : (q : ℕ) (slot : Option Slot) → slice_get l.slots.items q ≡ Some slot → slot ≡ None;
}
