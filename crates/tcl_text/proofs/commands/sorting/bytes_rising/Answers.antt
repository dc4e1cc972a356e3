use Rattle.std.proofs.Common.{rules}
use Rattle.std.proofs.lemmas.Cmp.{nat_list_cmp_total}
use Rattle.std.proofs.lemmas.List.Sorted.{ranks_by, answers_always}
use Rattle.tcl_text.specs.ListCommands.{bytes_less}
use Rattle.tcl_text.proofs.SortLemmas.{stable_sort-is}
use Rattle.tcl_text.proofs.commands.sorting.bytes_rising.Goals as goal

pub returns : goal.returns
returns c =
    let less = bytes_less in
    let order = ranks_by nat_list_cmp_total (λ x. x) in
    stable_sort-is less order _ _ (c.in_ok-sort_by.ensures.sorted less order (answers_always _ _ _ (λ f a r g h. search rules))) (c.in_ok-sort_by.ensures.stable less order (answers_always _ _ _ (λ f a r g h. search rules)))
