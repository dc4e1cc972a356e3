use Rattle.std.proofs.Common.{◌≡◌, ◌+◌, drop}
use Rattle.tcl_text.specs.Backslash.{blanks}
use Rattle.tcl_text.proofs.backslash.blanks.Given as goal

abbrev pub invariant-loop-count : goal.invariant-loop-count
invariant-loop-count l = l.count + blanks (drop l.count l.text) ≡ blanks l.text
