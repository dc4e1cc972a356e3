use Rattle.std.proofs.Common.{◌≡◌, ℕ, ◌<◌, Some, true, false}
use Rattle.std.specs.Prelude.{slice_get}
use Rattle.std.specs.BTreeSet.{contains}
use Rattle.std.specs.Ordering.{nat_cmp}
use Rattle.tk_screen.specs.declared.reads.TextRead.{TextRead}
use Rattle.tk_screen.specs.Reads.{holds}
use Rattle.tk_screen.proofs.again.add_changed.Given as goal

-- those that aren't touched were not, and what was read of them so far holds
abbrev pub invariant-loop-index : goal.invariant-loop-index
invariant-loop-index l = record {
  more : (number : ℕ) → contains nat_cmp l.touched number ≡ false → contains nat_cmp l.fn.touched number ≡ false;
  tested :
      (i number : ℕ) (read : TextRead) → i < l.index → slice_get l.reads.entries i ≡ Some (number, read) → contains nat_cmp l.touched number ≡ false
      → holds l.scopes read ≡ true;
}
