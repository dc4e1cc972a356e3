use Rattle.std.proofs.Common.{rules}
use Rattle.std.proofs.lemmas.List.Sorted.{answers_always}
use Rattle.panels_report.specs.declared.linting.Wrong.{Wrong}
use Rattle.panels_report.proofs.linting.by_line.Goals as goal

pub returns : goal.returns
returns c = record {
  same = c.in_ok-sort_by_key.ensures.permutation;
  ascending = c.in_ok-sort_by_key.ensures.sorted (λ (wrong : Wrong). wrong.line) (answers_always _ _ _ (λ f a r g h. search rules));
  stable = c.in_ok-sort_by_key.ensures.stable (λ (wrong : Wrong). wrong.line) (answers_always _ _ _ (λ f a r g h. search rules));
}
