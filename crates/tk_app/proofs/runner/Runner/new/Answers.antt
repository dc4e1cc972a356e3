use Rattle.std.proofs.Common.{refl, ◌∙◌}
use Rattle.tcl_interp.specs.Interp.{context_of}
use Rattle.tk_app.proofs.Beginnings.{begins}
use Rattle.tk_app.proofs.runner.Runner.new.Goals as goal

pub returns : goal.returns
returns g c =
    begins c.args.budget _ c.args.name c.args.script c.args.script _ c.args.aliases c.in_ok-new.field-0 c.begin_task.new.self c.as_slice.result.now (context_of c.in_ok-interp.interp) c.settling.result
    refl refl refl c.in_ok-new.ensures (c.as_slice.ensures.value ∙ c.in_ok-commands.ensures) c.in_ok-interp.ensures.context c.in_ok-begin_task.ensures.context
    c.in_ok-begin_task.ensures.ok c.settling.ensures (c.begin_task.ensures.left ∙ c.in_ok-interp.ensures.left)
