use Rattle.std.proofs.Common.{◌≡◌, ◌+◌, Bool, true, false, Some, length, if◌then◌else◌, ap, sym, ◌∙◌}
use Rattle.std.proofs.lemmas.Result.{IfOk-weaker}
use Rattle.tcl_commands.specs.Branches.{arms_of}
use Rattle.tcl_control.specs.Arms.{paired}
use Rattle.tcl_control.specs.Choices.{arm_for, by_arms, ends_open, no_body}
use Rattle.tcl_control.proofs.ArmLemmas.{arms_odd, arms_paired}
use Rattle.tcl_control.proofs.choices.by_kept.Goals as goal

pub returns-in_default : goal.returns-in_default
returns-in_default c =
    IfOk-weaker c.no_body.result _ _ (λ plan is. is ∙ sym (ap (by_arms c.args.matching c.args.value.now) (arms_odd c.in_default.ensures.0 c.args.list.now (sym c.len.ensures ∙ c.in_default.ensures.1)))) c.no_body.ensures

pub returns-then-branch : goal.returns-then-branch
returns-then-branch c =
    let list = c.args.list.now in
    let whole : length list ≡ c.in-Some.count + c.in-Some.count = sym c.len.ensures ∙ c.in-Some.ensures in
    let ends : ends_open (paired list) ≡ true = sym c.in_ok-ends_open_in.ensures ∙ c.if-branch.true in
    IfOk-weaker c.no_body-then-branch.result _ _ (λ plan is. is
    ∙ sym (ap (by_arms c.args.matching c.args.value.now) (arms_paired c.in-Some.count list whole)
    ∙ ap (λ (b : Bool). if b then no_body else arm_for c.args.matching c.args.value.now (paired list)) ends)) c.no_body-then-branch.ensures

pub returns : goal.returns
returns c =
    let list = c.args.list.now in
    let whole : length list ≡ c.in-Some.count + c.in-Some.count = sym c.len.ensures ∙ c.in-Some.ensures in
    let ends : ends_open (paired list) ≡ false = sym c.in_ok-ends_open_in.ensures ∙ c.if-branch.false in
    IfOk-weaker c.arm_in.result _ _ (λ plan is. is
    ∙ sym (ap (by_arms c.args.matching c.args.value.now) (arms_paired c.in-Some.count list whole)
    ∙ ap (λ (b : Bool). if b then no_body else arm_for c.args.matching c.args.value.now (paired list)) ends)) c.arm_in.ensures
