use Rattle.std.proofs.Common.{◌≡◌, ◌+◌, ◌-◌, length}
use Rattle.tcl_words.specs.Chain.{IsReading}
use Rattle.tcl_words.proofs.operands.read_inside.Given as goal

abbrev pub invariant-loop-reader : goal.invariant-loop-reader
invariant-loop-reader l = record {
  first : l.reader.first ≡ l.fn.first;
  reads : IsReading l.fn.first l.source l.reader.waiting.items l.reader.origin l.reader.parts l.reader.place l.reader.next;
}

abbrev pub decreases-loop-reader : goal.decreases-loop-reader
decreases-loop-reader l = length l.source - (l.reader.origin.base + l.reader.next)
