use Rattle.std.proofs.Common.{◌∙◌, ap, sym, arith}
use Rattle.std.proofs.lemmas.Bool.Decides.{nat_tests}
use Rattle.tcl_text.specs.Backslash.{one_byte}
use Rattle.tcl_text.proofs.SoughtLemmas.{escape_alone}
use Rattle.tcl_text.proofs.sought.meant_alone.Goals as goal

pub returns-then-is_alone : goal.returns-then-is_alone
returns-then-is_alone c =
    escape_alone c.args.behind.now (grind (arith, nat_tests)) (sym c.is_alone.ensures ∙ c.if-is_alone.true)
    ∙ ap one_byte (sym c.named.ensures)
