use Rattle.std.proofs.Common.{◌≤◌, length, arith, ap, ◌∙◌}
use Rattle.std.proofs.lemmas.Result.{IfOk-weaker}
use Rattle.tcl_interp.specs.Rests.{waits_of}
use Rattle.tcl_interp.proofs.ChoiceLemmas.{choice_past}
use Rattle.tcl_interp.proofs.expressions.choose.Goals as goal

pub returns-clause-now : goal.returns-clause-now
returns-clause-now g c =
    let past : length c.args.choices.branches ≤ c.args.place = omega (arith, ap length c.as_slice-branches.ensures) in
    let waits = waits_of c.args.frames.now.items in
    IfOk-weaker c.otherwise.result _ _ (λ _ ends. ends waits ∙ choice_past c.args.room c.args.choices.otherwise waits c.args.choices.branches c.args.place past) c.otherwise.ensures
