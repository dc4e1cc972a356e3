use Rattle.std.proofs.Common.{◌≡◌, ◌∙◌, Ok, ap}
use Rattle.tcl_text.specs.Readings.{list_of}
use Rattle.tcl_text.specs.TextForm.{form_bytes}
use Rattle.tcl_text.specs.declared.text.TextForm.{TextForm}
use Rattle.tcl_text.proofs.FormLemmas.{as_shown, told_kept}
use Rattle.tcl_text.proofs.RoundTrip.{list_of-list_form}
use Rattle.tcl_text.proofs.text.TextForm.found.Goals as goal

pub returns-in-Listed : goal.returns-in-Listed
returns-in-Listed c =
    let kept : list_of (form_bytes c.args.self.now) ≡ Ok c.in-Listed.list.value = ap (λ (form : TextForm). list_of (form_bytes form)) c.in-Listed.is ∙ list_of-list_form c.in-Listed.list.value in
    told_kept c.args.item.now c.as_ref-in-Listed.result.now _ c.has.result c.ok.result (as_shown _ _ _ kept c.as_ref-in-Listed.ensures) c.has.ensures c.ok.ensures.value
