use Rattle.std.proofs.Common.{◌≡◌, ◌++◌, length, string_bytes}
use Rattle.tcl_control.specs.Procedures.{usage_words}
use Rattle.tcl_control.proofs.procedure.usage_words.Given as goal

abbrev pub invariant-parameters : goal.invariant-parameters
invariant-parameters l = string_bytes l.words ++ usage_words l.left ≡ l.name ++ usage_words l.parameters

abbrev pub decreases-parameters : goal.decreases-parameters
decreases-parameters l = length l.left
