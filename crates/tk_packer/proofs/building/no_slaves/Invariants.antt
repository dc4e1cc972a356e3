use Rattle.std.proofs.Common.{◌≡◌, ℕ, List, [], Some, length}
use Rattle.std.specs.Prelude.{slice_get}
use Rattle.tk_packer.specs.declared.standing.Slave.{Slave}
use Rattle.tk_packer.proofs.building.no_slaves.Given as goal

abbrev pub invariant-loop-place : goal.invariant-loop-place
invariant-loop-place l = record {
  long : length l.slaves.items ≡ l._place;
  each : (q : ℕ) (list : List Slave) → slice_get l.slaves.items q ≡ Some list → list ≡ [];
}
