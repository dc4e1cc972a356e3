use Rattle.std.proofs.Common.{◌≡◌, ◌≤◌, length, map, sum_by, take}
use Rattle.tk_sequences.specs.Writing.{canonical}
use Rattle.tk_bind_commands.proofs.bind.written.Given as goal

abbrev pub invariant-loop-sequence : goal.invariant-loop-sequence
invariant-loop-sequence l = record {
  listed : l.list ≡ map canonical (take l.sequence-index l.sequences);
  summed : l.sum ≡ sum_by (λ sequence. length (canonical sequence)) (take l.sequence-index l.sequences);
  within : l.sum ≤ 65536;
}
