use Rattle.std.proofs.Common.{◌≡◌, false, sym, subst, ◌∙◌}
use Rattle.tk_dispatch.specs.Substitution.{substituted_from}
use Rattle.tk_dispatch.proofs.Runs.{as_steps}
use Rattle.tk_dispatch.proofs.substitution.has_percent.Goals as goal

pub returns-in-None : goal.returns-in-None
returns-in-None c = λ _ event.
    sym (as_steps event c.args.script.now) ∙ subst (λ text. substituted_from event false text ≡ text) c.as_str.ensures.bytes (c.in-None.ensures.cut event)
