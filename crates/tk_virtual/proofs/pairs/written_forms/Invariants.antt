use Rattle.std.proofs.Common.{◌≡◌, take, map}
use Rattle.tk_sequences.specs.Writing.{canonical}
use Rattle.tk_virtual.proofs.pairs.written_forms.Given as goal

abbrev pub invariant-loop-pair : goal.invariant-loop-pair
invariant-loop-pair l = l.list ≡ map (λ pair. canonical pair.sequence) (take l.pair-index l.pairs)
