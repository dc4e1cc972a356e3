use Rattle.std.proofs.Common.{List, length, ap, arith}
use Rattle.tcl_text.specs.Readings.{list_form}
use Rattle.tk_widgets.specs.Items.{texts}
use Rattle.tk_widgets.specs.declared.items.Item.{Item}
use Rattle.tk_widgets.proofs.listbox.list_text.Goals as goal

pub list_of-requires : goal.list_of-requires
unfolding list_form
list_of-requires c =
    let none = ap (λ (items : List Item). length (list_form (texts items))) c.requires in
    omega (arith, none)
