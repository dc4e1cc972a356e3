use Rattle.std.proofs.Common.{◌≡◌, ℤ, ◌+ℤ◌, ◌∙◌, arith}
use Rattle.std.proofs.lemmas.Int.{ints}
use Rattle.tk_alias.proofs.SumLemmas.{total_of-from, total_from-step}
use Rattle.tk_alias.proofs.summing.total.Goals as goal

pub loop-word-init : goal.loop-word-init
loop-word-init c = record { told = total_of-from c.args.words.now; low = omega (arith, ints); high = omega (arith, ints) }

pub loop-word-preserved : goal.loop-word-preserved
loop-word-preserved c = record {
  told = c.loop-word.invariant.told
      ∙ total_from-step _ c.in_ok-integer_of.field-0 _ c.args.words.now c.loop-word.word-index c.word-item.result (omega arith) c.word-item.is c.in_ok-integer_of.ensures (omega (arith, ints));
  low = omega (arith, ints);
  high = omega (arith, ints);
}
