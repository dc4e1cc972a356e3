use Rattle.std.proofs.Common.{◌≡◌, drop, Ok}
use Rattle.indexmap.specs.IndexSet.{insert_all}
use Rattle.tk_virtual.specs.Several.{meant_once}
use Rattle.tk_base.specs.Steps.{◌>>=◌}
use Rattle.tk_virtual.specs.Virtual.{is_same, pairs_meant}
use Rattle.tk_virtual.proofs.table.pairs_meant.Given as goal

abbrev pub invariant-loop-sequence : goal.invariant-loop-sequence
invariant-loop-sequence l = (pairs_meant l.name (drop l.sequence-index l.sequences) >>= λ pairs. Ok (insert_all is_same l.pairs.keys pairs)) ≡ meant_once l.name l.sequences
