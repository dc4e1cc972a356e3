use Rattle.std.proofs.Common.{sym, ◌∙◌}
use Rattle.tcl_text.proofs.ListReading.{list_of-from_IsList, same_items}
use Rattle.tcl_text.proofs.laws.one_list.Goals as goal

pub returns : goal.returns
returns c = λ text xs ys first second. same_items xs ys (sym (list_of-from_IsList text xs first) ∙ list_of-from_IsList text ys second)
