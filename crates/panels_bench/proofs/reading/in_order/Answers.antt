use Rattle.std.proofs.Common.{rules}
use Rattle.std.proofs.lemmas.List.Sorted.{answers_always}
use Rattle.panels_bench.specs.declared.reading.Placed.{Placed}
use Rattle.panels_bench.proofs.reading.in_order.Goals as goal

pub returns : goal.returns
returns c = record {
  all = c.in_ok-sort_by_key.ensures.permutation;
  ascending = c.in_ok-sort_by_key.ensures.sorted (λ (own : Placed). own.entry.moment) (answers_always _ _ _ (λ f a r g h. search rules));
  stable = c.in_ok-sort_by_key.ensures.stable (λ (own : Placed). own.entry.moment) (answers_always _ _ _ (λ f a r g h. search rules));
}
