use Rattle.std.proofs.Common.{ap, sym, ◌∙◌}
use Rattle.tcl_text.specs.Readings.{list_of}
use Rattle.tcl_text.proofs.ListReading.{same_items}
use Rattle.tcl_text.proofs.RoundTrip.{list_of-list_form}
use Rattle.tcl_text.proofs.laws.split_of_join.Goals as goal

pub returns : goal.returns
returns c = λ items again text joined split.
    same_items again items (sym split ∙ ap list_of joined.0 ∙ list_of-list_form items)
