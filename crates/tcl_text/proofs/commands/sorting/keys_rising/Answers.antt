use Rattle.std.proofs.Common.{rules, List, ℕ, ℤ}
use Rattle.std.proofs.lemmas.Cmp.{int_cmp_total}
use Rattle.std.proofs.lemmas.List.Sorted.{ranks_by, answers_always}
use Rattle.tcl_text.specs.ListCommands.{key_less}
use Rattle.tcl_text.proofs.SortLemmas.{stable_sort-is}
use Rattle.tcl_text.proofs.commands.sorting.keys_rising.Goals as goal

pub returns : goal.returns
returns c =
    let less = key_less in
    let order = ranks_by int_cmp_total (λ (x : ℤ × List ℕ). x.0) in
    stable_sort-is less order _ _ (c.in_ok-sort_by.ensures.sorted less order (answers_always _ _ _ (λ f a r g h. search rules))) (c.in_ok-sort_by.ensures.stable less order (answers_always _ _ _ (λ f a r g h. search rules)))
