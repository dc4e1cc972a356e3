use Rattle.std.proofs.Common.{rules}
use Rattle.std.proofs.lemmas.List.Sorted.{answers_always}
use Rattle.panels_text.specs.Meant.{Found}
use Rattle.panels_text.proofs.meant.nearest_first.Goals as goal

pub returns : goal.returns
returns c = record {
  all = c.in_ok-sort_by_key.ensures.permutation;
  ascending = c.in_ok-sort_by_key.ensures.sorted (λ (one : Found). one.0) (answers_always _ _ _ (λ f a r g h. search rules));
  stable = c.in_ok-sort_by_key.ensures.stable (λ (one : Found). one.0) (answers_always _ _ _ (λ f a r g h. search rules));
}
