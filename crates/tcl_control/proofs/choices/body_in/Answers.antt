use Rattle.std.proofs.Common.{◌≡◌, true, false, ap, sym, ◌∙◌, arith}
use Rattle.tcl_control.specs.Choices.{is_dash}
use Rattle.tcl_control.specs.declared.plan.Plan.TheVariants.{Runs}
use Rattle.tcl_control.proofs.ArmLemmas.{body_passed, body_taken}
use Rattle.tcl_control.proofs.choices.body_in.Goals as goal

pub returns-then-not-is_dash : goal.returns-then-not-is_dash
returns-then-not-is_dash c =
    let body = c.in_ok-body.body in
    let no : c.is_dash.result ≡ false = search (c.if-not-is_dash.true) in
    ap Runs c.of_text.ensures ∙ sym (body_taken c.args.list.now c.args.count c.arms.arm c.requires.whole c.arms-test.true body c.in_ok-body.ensures (sym c.is_dash.ensures ∙ no)) ∙ c.arms.invariant.same

pub arms-preserved : goal.arms-preserved
arms-preserved c =
    let body = c.in_ok-body.body in
    let yes : c.is_dash.result ≡ true = search (c.if-not-is_dash.false) in
    record {
      same = sym (body_passed c.args.list.now c.args.count c.arms.arm c.requires.whole c.arms-test.true body c.in_ok-body.ensures (sym c.is_dash.ensures ∙ yes)) ∙ c.arms.invariant.same;
      within = omega (arith, c.arms-test.true);
    }
