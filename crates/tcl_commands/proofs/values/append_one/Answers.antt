-- What is added is the value.
use Rattle.std.proofs.Common.{[], ◌∷◌, ◌∙◌, sym, subst}
use Rattle.std.proofs.lemmas.List.{append-nil}
use Rattle.tcl_commands.specs.Refusals.{Does}
use Rattle.tcl_commands.proofs.EditLemmas.{appends}
use Rattle.tcl_commands.proofs.values.append_one.Goals as goal

pub returns-clause-does : goal.returns-clause-does
returns-clause-does c =
    subst (λ done. Does c.change.result c.change.new.scopes done)
    (appends c.as_str.result (c.args.value.now ∷ []) c.args.frame c.args.name.now c.args.scopes.now (c.as_str.ensures.bytes ∙ sym (append-nil c.args.value.now)))
    c.change.ensures.does
