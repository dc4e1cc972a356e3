use Rattle.tcl_words.specs.Moves.{at_fault}
use Rattle.tcl_words.proofs.read.read_past.Goals as goal

pub returns-in-Blank : goal.returns-in-Blank
returns-in-Blank c = c.end_word.ensures (at_fault c.args.fault)
