use Rattle.std.proofs.Common.{◌<◌, ◌≤◌, ◌-◌, length}
use Rattle.tcl_text.proofs.WordPlaces.{NoneBefore}
use Rattle.tcl_text.proofs.word_places.has_word.Given as goal

abbrev pub invariant-loop-from : goal.invariant-loop-from
invariant-loop-from l = (0 < l.from) × (l.from ≤ length l.words) × NoneBefore l.words l.item l.from

abbrev pub decreases-loop-from : goal.decreases-loop-from
decreases-loop-from l = length l.words - l.from
