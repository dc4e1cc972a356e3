use Rattle.std.proofs.Common.{◌∙◌}
use Rattle.tcl_words.proofs.Readers.{first_reading}
use Rattle.tcl_words.proofs.reader.read_all.Goals as goal

pub loop-reader-init : goal.loop-reader-init
loop-reader-init c =
    let first = c.new-reader.ensures.first ∙ c.outermost.ensures in
    record {
      first = first;
      reads =
          rw (c.new-reader.ensures.waiting, c.new-reader.ensures.origin, c.new-reader.ensures.parts, c.new-reader.ensures.place, c.new-reader.ensures.next, c.outermost.ensures) (first_reading c.args.source.now c.utf8.source);
    }
