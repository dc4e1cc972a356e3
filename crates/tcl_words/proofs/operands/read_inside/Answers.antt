use Rattle.std.proofs.Common.{inl}
use Rattle.tcl_words.proofs.OperandLemmas.{never_ends}
use Rattle.tcl_words.proofs.operands.read_inside.Goals as goal

pub loop-reader-init : goal.loop-reader-init
loop-reader-init c = record {
  first = c.new-reader.ensures.first;
  reads = rw (c.new-reader.ensures.waiting, c.new-reader.ensures.origin, c.new-reader.ensures.parts, c.new-reader.ensures.place, c.new-reader.ensures.next) c.requires.begins;
}

pub returns-clause-fault : goal.returns-clause-fault
returns-clause-fault c =
    inl (never_ends c.args.first c.args.source.now c.loop-reader.reader.waiting.items c.loop-reader.reader.origin c.loop-reader.reader.parts c.loop-reader.reader.place c.loop-reader.reader.next c.unfinished.result
    c.loop-reader.invariant.reads c.requires.inside c.loop-reader-test.false c.unfinished.ensures)
