use Rattle.std.proofs.Common.{◌++◌, codes, ap, ◌∙◌, subst}
use Rattle.tcl_text.specs.Answers.{Refuses, bounded, quoted}
use Rattle.tk_tree.specs.declared.fault.WindowFault.TheVariants.{BadName, Dying, Full}
use Rattle.tk_window_commands.specs.Create.{name_in, refusal_text}
use Rattle.tk_window_commands.proofs.Answered.{refused_by}
use Rattle.tk_window_commands.proofs.refusals.path_refused.Goals as goal

pub returns-in-BadName : goal.returns-in-BadName
unfolding refusal_text
returns-in-BadName c =
    refused_by c.quoting_error-in-BadName.result c.args.path.now c.args.fault BadName c.in-BadName.is
    (subst (λ n. Refuses c.quoting_error-in-BadName.result (bounded (codes "window name starts with an upper-case letter: " ++ quoted n))) (c.name_in.ensures ∙ ap name_in c.as_str-in-BadName.ensures.bytes) c.quoting_error-in-BadName.ensures)

pub returns-in-Dying : goal.returns-in-Dying
unfolding refusal_text
returns-in-Dying c = refused_by c.error.result c.args.path.now c.args.fault Dying c.in-Dying.is c.error.ensures

pub returns-in-Full : goal.returns-in-Full
unfolding refusal_text
returns-in-Full c = refused_by c.error-in-Full.result c.args.path.now c.args.fault Full c.in-Full.is c.error-in-Full.ensures
