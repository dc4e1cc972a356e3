use Rattle.std.proofs.Common.{◌≡◌, drop}
use Rattle.tcl_words.specs.Kinds.{to_brace}
use Rattle.tcl_words.proofs.Fronts.{found_past}
use Rattle.tcl_words.proofs.look.to_brace.Given as goal

abbrev pub invariant-loop-count : goal.invariant-loop-count
invariant-loop-count l = to_brace l.text ≡ found_past l.count (to_brace (drop l.count l.text))
