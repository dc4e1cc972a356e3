use Rattle.std.proofs.Common.{◌≡◌, ◌≤◌, ◌-◌, length}
use Rattle.tcl_words.specs.Parts.{IsCut, no_parts}
use Rattle.tcl_words.specs.Operands.{quoted_whole}
use Rattle.tcl_words.proofs.operands.quotes_behind.Given as goal

abbrev pub invariant-loop-next : goal.invariant-loop-next
invariant-loop-next l = record {
  within : l.next ≤ length l.text;
  fine : IsCut l.parts l.text l.next;
  same : quoted_whole l.room l.text l.parts l.next ≡ quoted_whole l.room l.text (no_parts 0) 0;
}

abbrev pub decreases-loop-next : goal.decreases-loop-next
decreases-loop-next l = length l.text - l.next
