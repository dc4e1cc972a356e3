use Rattle.std.proofs.Common.{◌≡◌, ◌+◌, ◌≤◌, length, map}
use Rattle.std.specs.List.{concat}
use Rattle.tk_sequences.specs.Words.{in_brackets}
use Rattle.tk_virtual.specs.First.{first_names}
use Rattle.tk_virtual.proofs.first.names_length.Given as goal

abbrev pub invariant-loop-pair : goal.invariant-loop-pair
invariant-loop-pair l = record {
  summed : l.sum + length (concat (map in_brackets (first_names l.pair-iterator))) ≡ length (concat (map in_brackets (first_names l.pairs.entries)));
  within : l.sum ≤ 65536;
}
