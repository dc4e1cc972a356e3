use Rattle.tcl_text.proofs.WrittenIntegers.{signed_decimal_reads}
use Rattle.tcl_text.proofs.laws.written_integers_are_read.Goals as goal

pub returns : goal.returns
returns c = signed_decimal_reads
