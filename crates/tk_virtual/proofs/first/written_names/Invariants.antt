use Rattle.std.proofs.Common.{◌≡◌, ◌++◌, map}
use Rattle.tk_sequences.specs.Words.{in_brackets}
use Rattle.tk_virtual.specs.First.{first_names}
use Rattle.tk_virtual.proofs.first.written_names.Given as goal

abbrev pub invariant-loop-pair : goal.invariant-loop-pair
invariant-loop-pair l = l.list ++ map in_brackets (first_names l.pair-iterator) ≡ map in_brackets (first_names l.pairs.entries)
