-- The frame does what its content does.
use Rattle.std.proofs.Common.{sym, ap, ◌∙◌}
use Rattle.tcl_vars.specs.Table.{with_value}
use Rattle.tcl_vars.specs.Unset.{frame_but}
use Rattle.tcl_vars.proofs.UnsetLemmas.{frame_but-held, frame_but-counted}
use Rattle.tcl_vars.proofs.frame.leave_out.Goals as goal

pub returns-in-None-clause-frame : goal.returns-in-None-clause-frame
returns-in-None-clause-frame c = ap (λ held. frame_but c.args.pattern.now c.args.variable.now held c.args.frame.now) c.in-None.ensures.value

pub returns-in-Some-clause-frame : goal.returns-in-Some-clause-frame
returns-in-Some-clause-frame c =
    ap (λ content. with_value c.args.frame.now c.args.variable.now content) c.leave_out.ensures.content
    ∙ frame_but-held c.args.pattern.now c.args.frame.now c.args.variable.now c.in-Some.content.now (sym c.in-Some.ensures.value)

pub returns-in-Some-clause-counted : goal.returns-in-Some-clause-counted
returns-in-Some-clause-counted c =
    frame_but-counted c.args.frame.now c.args.variable.now c.in-Some.content.now (sym c.in-Some.ensures.value) c.leave_out.new.self c.leave_out.result c.leave_out.ensures.counted
