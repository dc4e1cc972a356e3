use Rattle.std.proofs.Common.{◌≡◌, ◌++◌, drop, Ok}
use Rattle.tcl_text.specs.Answers.{◌>>=◌}
use Rattle.tcl_text.specs.ListCommands.{keyed}
use Rattle.tcl_text.proofs.commands.sorting.keyed.Given as goal

abbrev pub invariant-loop-item : goal.invariant-loop-item
invariant-loop-item l = keyed l.items ≡ (keyed (drop l.item-index l.items) >>= λ rest. Ok (l.pairs.items ++ rest))
