use Rattle.std.proofs.Common.{◌≡◌, ℕ, ◌<◌, ◌≤◌, false, get_or, length}
use Rattle.tcl_text.specs.Backslash.{is_white}
use Rattle.tcl_text.proofs.searching.words_len.Given as goal

abbrev pub invariant-loop-end : goal.invariant-loop-end
invariant-loop-end l = (l.end ≤ length l.text) × ((at : ℕ) → l.end ≤ at → at < length l.text → is_white (get_or l.text at 0) ≡ false)

abbrev pub decreases-loop-end : goal.decreases-loop-end
decreases-loop-end l = l.end
