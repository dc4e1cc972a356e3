use Rattle.std.proofs.Common.{List, length, ap, arith}
use Rattle.tcl_text.specs.Readings.{list_form}
use Rattle.tk_widgets.specs.Items.{texts}
use Rattle.tk_widgets.specs.declared.items.Item.{Item}
use Rattle.tk_widgets.proofs.Lists.{rest_short}
use Rattle.tk_widgets.proofs.listbox.rest_listed.Goals as goal

pub list_of-requires : goal.list_of-requires
list_of-requires c =
    let whole = ap length c.requires.list in
    let short = rest_short c.args.items.now c.args.from c.args.to (omega (arith, whole, c.as_str-characters.ensures.short)) in
    let same = ap (λ (items : List Item). length (list_form (texts items))) c.requires.left in
    omega (arith, short, same)
