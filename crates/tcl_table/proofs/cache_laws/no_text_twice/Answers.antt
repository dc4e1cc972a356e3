use Rattle.tcl_table.proofs.Twice.{no_text_twice_holds}
use Rattle.tcl_table.proofs.cache_laws.no_text_twice.Goals as goal

pub returns : goal.returns
returns c = no_text_twice_holds
