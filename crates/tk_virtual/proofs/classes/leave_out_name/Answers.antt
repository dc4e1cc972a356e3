use Rattle.std.proofs.Common.{List, length, ◌==◌, sym, ap, ◌∙◌}
use Rattle.tk_virtual.specs.declared.pair.Pair.{Pair}
use Rattle.tk_virtual.proofs.ClassLemmas.{stays}
use Rattle.tk_virtual.proofs.classes.leave_out_name.Goals as goal

pub returns-else-not-is_empty : goal.returns-else-not-is_empty
returns-else-not-is_empty c =
    stays c.args.name.now c.args.own.now (ap (λ (l : List Pair). length l == 0) (sym c.named.ensures) ∙ sym c.if-not-is_empty.ensures)
