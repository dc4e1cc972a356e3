use Rattle.tcl_text.proofs.SortLemmas.{sorted-stable}
use Rattle.tcl_text.proofs.commands.laws.sorted_items_are_stable.Goals as goal

pub returns : goal.returns
returns c = λ less order items. sorted-stable less order items
