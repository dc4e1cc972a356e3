use Rattle.tcl_text.proofs.WordPlaces.{AreLikely}
use Rattle.tcl_text.proofs.word_places.has_word_near.Given as goal

abbrev pub invariant-loop-left : goal.invariant-loop-left
invariant-loop-left l = AreLikely l.words l.item l.from l.left

abbrev pub decreases-loop-left : goal.decreases-loop-left
decreases-loop-left l = l.left
