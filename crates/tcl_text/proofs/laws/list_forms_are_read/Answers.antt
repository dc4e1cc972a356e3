use Rattle.tcl_text.specs.Readings.{list_form}
use Rattle.tcl_text.proofs.ListReading.{IsList-from_list_of}
use Rattle.tcl_text.proofs.RoundTrip.{list_of-list_form}
use Rattle.tcl_text.proofs.laws.list_forms_are_read.Goals as goal

pub returns : goal.returns
returns c = λ items. IsList-from_list_of (list_form items) items (list_of-list_form items)
