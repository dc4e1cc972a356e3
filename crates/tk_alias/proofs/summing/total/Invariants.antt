use Rattle.std.proofs.Common.{◌≡◌, ◌*◌, ◌^◌, drop, pos, neg_ℤ, ◌≤ℤ◌}
use Rattle.tk_alias.specs.Services.{total_of}
use Rattle.tk_alias.proofs.SumLemmas.{total_from}
use Rattle.tk_alias.proofs.summing.total.Given as goal

abbrev pub invariant-loop-word : goal.invariant-loop-word
invariant-loop-word l = record {
  told : total_of l.words ≡ total_from l.total (drop l.word-index l.words);
  low : neg_ℤ (pos (2 ^ 63 * l.word-index)) ≤ℤ l.total;
  high : l.total ≤ℤ pos (2 ^ 63 * l.word-index);
}
