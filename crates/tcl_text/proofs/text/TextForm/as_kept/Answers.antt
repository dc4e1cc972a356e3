use Rattle.std.proofs.Common.{◌∙◌, ap}
use Rattle.tcl_text.specs.Readings.{list_of}
use Rattle.tcl_text.specs.TextForm.{form_bytes}
use Rattle.tcl_text.specs.declared.text.TextForm.{TextForm}
use Rattle.tcl_text.proofs.RoundTrip.{list_of-list_form}
use Rattle.tcl_text.proofs.text.TextForm.as_kept.Goals as goal

pub returns-in-Listed : goal.returns-in-Listed
returns-in-Listed c =
    ap (λ (form : TextForm). list_of (form_bytes form)) c.in-Listed.is ∙ list_of-list_form c.in-Listed.list.value
