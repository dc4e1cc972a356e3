use Rattle.std.proofs.Common.{◌≡◌, ℕ, Option, Some, length}
use Rattle.std.specs.Prelude.{slice_get}
use Rattle.tk_base.specs.declared.rect.Rect.{Rect}
use Rattle.tk_packer.specs.Standing.{first_at}
use Rattle.tk_packer.proofs.building.first_places.Given as goal

abbrev pub invariant-loop-place : goal.invariant-loop-place
invariant-loop-place l = record {
  long : length l.places.items ≡ l.place;
  each : (q : ℕ) (own : Option Rect) → slice_get l.places.items q ≡ Some own → own ≡ first_at l.size q;
}
