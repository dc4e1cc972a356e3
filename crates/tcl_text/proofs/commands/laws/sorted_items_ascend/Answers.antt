use Rattle.tcl_text.proofs.SortLemmas.{sorted-ascends}
use Rattle.tcl_text.proofs.commands.laws.sorted_items_ascend.Goals as goal

pub returns : goal.returns
returns c = λ less order items. sorted-ascends less order items
