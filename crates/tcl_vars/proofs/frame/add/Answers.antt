-- The frame takes the sum that its content takes.
use Rattle.std.proofs.Common.{◌≡◌, [], IfOk, MatchOption, sym, subst}
use Rattle.std.proofs.lemmas.Int.{to_z-of_z}
use Rattle.std.proofs.lemmas.Result.{IfOk-weaker, on_err_weaker}
use Rattle.std.specs.Int.{w64}
use Rattle.std.specs.Prelude.{ℤ}
use Rattle.tcl_vars.specs.Add.{AddsContent}
use Rattle.tcl_vars.specs.Store.{variable_place}
use Rattle.tcl_vars.proofs.AddLemmas.{adds_text}
use Rattle.tcl_vars.proofs.PutLemmas.{with_value-held}
use Rattle.tcl_vars.proofs.frame.add.Goals as goal

pub returns-in-Some-clause-ok : goal.returns-in-Some-clause-ok
returns-in-Some-clause-ok c =
    let old = c.in-Some.content.now in
    let new = c.add.new.self in
    let adds : IfOk c.add.result (λ sum. MatchOption sum (new ≡ old) (λ text. AddsContent old c.args.amount text new)) =
    subst (λ (amount : ℤ). IfOk c.add.result (λ sum. MatchOption sum (new ≡ old) (λ text. AddsContent old amount text new))) (to_z-of_z w64 c.args.amount c.ranges.amount) c.add.ensures.ok in
    IfOk-weaker c.add.result (λ sum. MatchOption sum (new ≡ old) (λ text. AddsContent old c.args.amount text new)) _
    (λ sum done. adds_text c.args.frame.now c.args.variable.now c.args.amount old new (sym c.in-Some.ensures.value) sum done) adds

pub returns-in-Some-clause-err : goal.returns-in-Some-clause-err
returns-in-Some-clause-err c =
    on_err_weaker c.add.result (with_value-held c.args.frame.now (variable_place 0 c.args.variable.now) [] 0 c.in-Some.content.now (sym c.in-Some.ensures.value) c.add.new.self) c.add.ensures.err
