-- The frame takes what its content takes, and a new variable where there is room for it.
use Rattle.std.proofs.Common.{sym, arith}
use Rattle.std.proofs.lemmas.Result.{IfOk-weaker, IfErr-weaker, on_err_weaker}
use Rattle.tcl_vars.specs.Shown.{shown}
use Rattle.tcl_vars.proofs.PutLemmas.{AfterPut-content, RefusesText-content, with_value-held, PutsText-new, RefusesText-new}
use Rattle.tcl_vars.proofs.frame.put.Goals as goal

pub returns-in-Some-clause-ok : goal.returns-in-Some-clause-ok
returns-in-Some-clause-ok c =
    IfOk-weaker c.put.result _ _ (λ done put. AfterPut-content c.args.frame.now (shown c.args.place) c.args.value c.args.room c.in-Some.content.now (sym c.in-Some.ensures.value)
    done c.put.new.self put) c.put.ensures.ok

pub returns-in-Some-clause-refused : goal.returns-in-Some-clause-refused
returns-in-Some-clause-refused c =
    IfErr-weaker c.put.result _ _ (λ fault refused other. RefusesText-content c.args.frame.now (shown c.args.place) c.args.value c.args.room c.in-Some.content.now (sym c.in-Some.ensures.value)
    fault (refused other)) c.put.ensures.refused

pub returns-in-Some-clause-err : goal.returns-in-Some-clause-err
returns-in-Some-clause-err c =
    on_err_weaker c.put.result (with_value-held c.args.frame.now (shown c.args.place) c.args.value c.args.room c.in-Some.content.now (sym c.in-Some.ensures.value) c.put.new.self) c.put.ensures.err

pub returns-then-room-added-clause-refused : goal.returns-then-room-added-clause-refused
returns-then-room-added-clause-refused c = λ _.
    RefusesText-new c.args.frame.now (shown c.args.place) c.args.value c.args.room (sym c.in-None.ensures.value)
    (omega (arith, c.if-room-added.true, c.new_count-added.ensures))

pub returns-in_ok-insert-in-None-clause-ok : goal.returns-in_ok-insert-in-None-clause-ok
returns-in_ok-insert-in-None-clause-ok c =
    rw c.new_count-added.ensures
    (PutsText-new c.args.frame.now (shown c.args.place) c.args.value c.args.room (sym c.in-None.ensures.value) c.in_ok-content-in-None.content c.insert.new.self
    c.in_ok-content-in-None.ensures c.in_ok-insert-in-None.ensures.ok (omega (arith, c.if-room-added.false, c.new_count-added.ensures)))
