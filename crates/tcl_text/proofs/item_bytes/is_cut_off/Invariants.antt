use Rattle.tcl_text.proofs.ItemBytes.{Searched}
use Rattle.tcl_text.proofs.item_bytes.is_cut_off.Given as goal

abbrev pub invariant-loop-length : goal.invariant-loop-length
invariant-loop-length l = Searched l.item l.lengths l.bytes l.length-index l.rest
