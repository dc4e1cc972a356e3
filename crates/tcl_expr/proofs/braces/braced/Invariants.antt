use Rattle.std.proofs.Common.{◌≡◌, ◌+◌, ◌≤◌, length}
use Rattle.tcl_expr.specs.Braces.{braced, pending}
use Rattle.tcl_expr.specs.declared.braces.BracePlace.TheVariants.{Plain}
use Rattle.tcl_expr.proofs.BraceLemmas.{joined}
use Rattle.tcl_expr.proofs.braces.braced.Given as goal

abbrev pub invariant-loop-left : goal.invariant-loop-left
invariant-loop-left l = record {
  deep : l.depth ≤ l.count;
  counted : l.count + length l.left ≡ length l.text;
  short : length l.bytes.items + pending l.place ≤ l.count;
  reads : joined l.bytes.items l.count (braced l.place l.depth l.left) ≡ braced Plain 0 l.text;
}

abbrev pub decreases-loop-left : goal.decreases-loop-left
decreases-loop-left l = length l.left
