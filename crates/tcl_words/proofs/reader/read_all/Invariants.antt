use Rattle.std.proofs.Common.{◌≡◌, ◌+◌, ◌-◌, length}
use Rattle.tcl_words.specs.Chain.{outset, IsReading}
use Rattle.tcl_words.proofs.reader.read_all.Given as goal

abbrev pub invariant-loop-reader : goal.invariant-loop-reader
invariant-loop-reader l = record {
  first : l.reader.first ≡ outset;
  reads : IsReading outset l.source l.reader.waiting.items l.reader.origin l.reader.parts l.reader.place l.reader.next;
}

abbrev pub decreases-loop-reader : goal.decreases-loop-reader
decreases-loop-reader l = length l.source - (l.reader.origin.base + l.reader.next)
