use Rattle.std.proofs.Common.{sym, ◌∙◌, arith}
use Rattle.tk_widgets.proofs.listbox.list_of.Goals as goal

pub unreachable-requires : goal.unreachable-requires
unreachable-requires c =
    let long = c.in-Err-TooLong.ensures.too_long (λ e. let clash = sym c.in-Err-TooLong.field-0-is ∙ e in cc) in
    omega (arith, long, c.requires)
