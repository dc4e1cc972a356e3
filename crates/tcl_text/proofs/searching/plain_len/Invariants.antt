use Rattle.tcl_text.proofs.SearchLemmas.{PassesTo}
use Rattle.tcl_text.proofs.searching.plain_len.Given as goal

abbrev pub invariant-loop-at : goal.invariant-loop-at
invariant-loop-at l = PassesTo l.item l.text l.start l.at l.found
