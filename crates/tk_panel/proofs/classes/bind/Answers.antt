use Rattle.std.proofs.Common.{ap, ◌∙◌}
use Rattle.tk_patterns.specs.Own.{without_tag}
use Rattle.tk_patterns.specs.Shared.{own_of}
use Rattle.tk_panel.proofs.Kept.{with_binding_kept}
use Rattle.tk_panel.proofs.classes.bind.Goals as goal

pub returns-in-Ok-clause-kept : goal.returns-in-Ok-clause-kept
returns-in-Ok-clause-kept c =
    ap (without_tag c.args.class) c.in-Ok.ensures.ok ∙ with_binding_kept c.args.class c.args.sequence c.args.script (own_of c.args.slot c.args.bindings.now)
