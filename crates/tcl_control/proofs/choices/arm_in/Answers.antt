use Rattle.std.proofs.Common.{sym, ◌∙◌, arith}
use Rattle.std.proofs.lemmas.Result.{IfOk-weaker}
use Rattle.tcl_control.proofs.ArmLemmas.{arm_passed, arm_taken}
use Rattle.tcl_control.proofs.choices.arm_in.Goals as goal

pub returns-then-branch : goal.returns-then-branch
returns-then-branch c =
    let found = c.in_ok-takes_in.ensures in
    IfOk-weaker c.body_in.result _ _ (λ plan is. is
    ∙ sym (arm_taken c.args.list.now c.args.count c.arms.arm c.requires c.arms-test.true c.args.matching c.args.value.now found.0 found.1 c.in_ok-takes_in.field-0 found.2 c.if-branch.true)
    ∙ c.arms.invariant.same) c.body_in.ensures

pub arms-preserved : goal.arms-preserved
arms-preserved c =
    let found = c.in_ok-takes_in.ensures in
    record {
      same = sym (arm_passed c.args.list.now c.args.count c.arms.arm c.requires c.arms-test.true c.args.matching c.args.value.now found.0 found.1 c.in_ok-takes_in.field-0 found.2 c.if-branch.false) ∙ c.arms.invariant.same;
      within = omega (arith, c.arms-test.true);
    }
