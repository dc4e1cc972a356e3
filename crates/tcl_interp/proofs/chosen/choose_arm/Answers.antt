use Rattle.std.proofs.Common.{◌≡◌, IsOk, ap, sym, subst, ◌∙◌}
use Rattle.tcl_control.specs.declared.plan.Plan.TheVariants as plan
use Rattle.tcl_control.specs.Choices.{switch_plan}
use Rattle.tcl_table.specs.Source.{script_of}
use Rattle.tcl_interp.proofs.chosen.choose_arm.Goals as goal

pub returns-in-Ends : goal.returns-in-Ends
returns-in-Ends c = sym (rw c.in-Ends.is at c.in_ok-plan.ensures)

pub returns-in-Some : goal.returns-in-Some
returns-in-Some c =
    let body = c.in-Runs.body in
    let runs : plan.Runs body ≡ switch_plan c.args.words.now = rw c.in-Runs.is at c.in_ok-plan.ensures in
    let kept : (c.in-Some.script ≡ body) × IsOk (script_of body) = rw (c.in-Some.is, c.in_ok-text-in-Runs.ensures) at c.in_ok-kept-in-Runs.ensures in
    (sym runs ∙ ap plan.Runs (sym kept.0), subst (λ s. IsOk (script_of s)) (sym kept.0) kept.1)
