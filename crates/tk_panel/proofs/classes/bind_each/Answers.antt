use Rattle.std.proofs.Common.{◌∙◌}
use Rattle.tk_patterns.specs.Shared.{own_of}
use Rattle.tk_panel.proofs.Kept.{button_kept, entry_kept, listbox_kept}
use Rattle.tk_panel.proofs.classes.bind_each.Goals as goal

pub returns-in_err-bind_class-2-clause-kept : goal.returns-in_err-bind_class-2-clause-kept
returns-in_err-bind_class-2-clause-kept c =
    let first = own_of c.args.slot c.args.bindings.now in
    let second = own_of c.args.slot c.bind_class.new.bindings in
    let third = own_of c.args.slot c.bind_class-2.new.bindings in
    entry_kept third second c.bind_class-2.ensures.kept ∙ button_kept second first c.bind_class.ensures.kept

pub returns-clause-kept : goal.returns-clause-kept
returns-clause-kept c =
    let first = own_of c.args.slot c.args.bindings.now in
    let second = own_of c.args.slot c.bind_class.new.bindings in
    let third = own_of c.args.slot c.bind_class-2.new.bindings in
    let last = own_of c.args.slot c.bind_class-3.new.bindings in
    listbox_kept last third c.bind_class-3.ensures.kept ∙ entry_kept third second c.bind_class-2.ensures.kept ∙ button_kept second first c.bind_class.ensures.kept
