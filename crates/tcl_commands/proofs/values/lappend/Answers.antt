-- What is added are the values as items.
use Rattle.std.proofs.Common.{refl, subst, arith}
use Rattle.tcl_commands.specs.Refusals.{Does}
use Rattle.tcl_commands.proofs.EditLemmas.{lappends}
use Rattle.tcl_commands.proofs.values.lappend.Goals as goal

pub returns-in_default-clause-does : goal.returns-in_default-clause-does
returns-in_default-clause-does c =
    subst (λ done. Does c.change.result c.change.new.scopes done)
    (lappends c.args.values c.args.values.now c.args.frame c.args.name.now c.args.scopes.now refl (omega (arith, c.in_default.len_at_least)))
    c.change.ensures.does
