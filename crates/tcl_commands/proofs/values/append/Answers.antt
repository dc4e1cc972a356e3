-- What is added are the values joined.
use Rattle.std.proofs.Common.{◌++◌, ap, ◌∙◌, subst}
use Rattle.std.specs.List.{concat}
use Rattle.tcl_commands.specs.Refusals.{Does}
use Rattle.tcl_commands.proofs.EditLemmas.{appends}
use Rattle.tcl_commands.proofs.values.append.Goals as goal

pub returns-clause-does : goal.returns-clause-does
returns-clause-does c =
    subst (λ done. Does c.change.result c.change.new.scopes done)
    (appends c.as_str.result c.args.values.now c.args.frame c.args.name.now c.args.scopes.now
    (c.as_str.ensures.value ∙ c.in_ok-push_all.ensures ∙ ap (λ t. t ++ concat c.args.values.now) c.in_ok-more.ensures.bytes))
    c.change.ensures.does
