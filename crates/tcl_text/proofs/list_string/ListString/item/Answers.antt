use Rattle.std.proofs.Common.{[], get_or}
use Rattle.tcl_text.proofs.KeptItems.{begun, told_item}
use Rattle.tcl_text.proofs.list_string.ListString.item.Goals as goal

pub first_element-requires : goal.first_element-requires
first_element-requires c =
    let h = begun c.form-form.result.now (get_or c.args.self.now c.args.number []) c.form-form.ensures.value in
    record { some = h.some; short = c.form-form.ensures.short; black = h.black }

pub returns-in-Ok : goal.returns-in-Ok
returns-in-Ok c = told_item c.form-form.result.now c.in-Ok.item _ c.args.self.now c.args.number c.requires c.form-form.ensures.value c.in-Ok.ensures.1
