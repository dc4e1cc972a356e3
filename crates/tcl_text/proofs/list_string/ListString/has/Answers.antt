use Rattle.std.proofs.Common.{◌∙◌, ◌++◌, ℕ, List, ap}
use Rattle.tcl_text.specs.Readings.{element_form}
use Rattle.tcl_text.proofs.FormLemmas.{any_told}
use Rattle.tcl_text.proofs.list_string.ListString.has.Goals as goal

pub returns : goal.returns
returns c =
    let form = c.as_str.ensures.value ∙ c.in_ok-push_element.ensures ∙ ap (λ (t : List ℕ). t ++ element_form c.args.item.now) c.new-form.ensures.bytes in
    c.has_form.ensures ∙ any_told c.args.item.now c.as_str.result.now c.args.self.now form
