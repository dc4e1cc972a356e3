use Rattle.tcl_text.proofs.ListReading.{IsList-from_list_of, list_of-from_IsList}
use Rattle.tcl_text.proofs.laws.lists_are_read.Goals as goal

pub returns : goal.returns
returns c = λ text items. (IsList-from_list_of text items, list_of-from_IsList text items)
