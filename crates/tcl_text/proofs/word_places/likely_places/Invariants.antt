use Rattle.tcl_text.proofs.WordPlaces.{AreLikely}
use Rattle.tcl_text.proofs.word_places.likely_places.Given as goal

abbrev pub invariant-loop-at : goal.invariant-loop-at
invariant-loop-at l = AreLikely l.words l.item l.from l.likely
