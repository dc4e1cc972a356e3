use Rattle.std.proofs.Common.{arith}
use Rattle.std.proofs.lemmas.Grind.{common_steps}
use Rattle.tcl_text.proofs.IntegerLemmas.{overflow_none}
use Rattle.tcl_text.proofs.integer.number_from.Goals as goal

pub returns-in_err-number : goal.returns-in_err-number
returns-in_err-number c = grind (arith, common_steps, overflow_none)
