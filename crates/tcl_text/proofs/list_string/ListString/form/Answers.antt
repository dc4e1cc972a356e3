use Rattle.std.proofs.Common.{◌≤◌, ◌∙◌, arith, length, string_bytes}
use Rattle.tcl_text.specs.ListString.{KeepsList}
use Rattle.tcl_text.proofs.KeptItems.{form_bounds, form_cut}
use Rattle.tcl_text.proofs.KeptViews.{kept, seen_few}
use Rattle.tcl_text.proofs.list_string.ListString.form.Goals as goal

pub overflow_add-next : goal.overflow_add-next
overflow_add-next c =
    let keeps : KeepsList (string_bytes c.self.inside.string) c.self.inside.ends.items c.args.self.now = kept _ _ _ _ c.self.invariant.0 c.self.view_is in
    let few : length c.args.self.now ≤ 65537 = seen_few _ _ _ keeps in
    omega arith

pub range-requires : goal.range-requires
range-requires c =
    let keeps : KeepsList (string_bytes c.self.inside.string) c.self.inside.ends.items c.args.self.now = kept _ _ _ _ c.self.invariant.0 c.self.view_is in
    let string = c.as_str-string.result.now in
    let b = form_bounds string c.args.self.now c.args.number c.place-start.result c.place-end.result c.as_str-string.utf8 c.requires (c.as_str-string.ensures.value ∙ keeps.forms) c.place-start.ensures.value c.place-end.ensures.value in
    record { start_le_end = b.0; start_boundary = λ _. b.1.0; end_boundary = b.1.1 }

pub returns-clause-value : goal.returns-clause-value
returns-clause-value c =
    let keeps : KeepsList (string_bytes c.self.inside.string) c.self.inside.ends.items c.args.self.now = kept _ _ _ _ c.self.invariant.0 c.self.view_is in
    let string = c.as_str-string.result.now in
    c.range.ensures.value ∙ form_cut string c.args.self.now c.args.number c.place-start.result c.place-end.result c.requires (c.as_str-string.ensures.value ∙ keeps.forms) c.place-start.ensures.value c.place-end.ensures.value
