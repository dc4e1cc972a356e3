-- The frame changes as its content does.
use Rattle.std.proofs.Common.{[], sym}
use Rattle.std.proofs.lemmas.Result.{IfOk-weaker, IfErr-weaker, on_err_weaker}
use Rattle.tcl_vars.specs.Shown.{shown}
use Rattle.tcl_vars.proofs.ChangeLemmas.{AfterChange-content, KeepsText-content}
use Rattle.tcl_vars.proofs.PutLemmas.{with_value-held}
use Rattle.tcl_vars.proofs.frame.change.Goals as goal

pub returns-in-Some-clause-ok : goal.returns-in-Some-clause-ok
returns-in-Some-clause-ok c =
    IfOk-weaker c.change.result _ _ (λ done changed. AfterChange-content c.args.frame.now (shown c.args.place) c.args.edit c.in-Some.content.now (sym c.in-Some.ensures.value)
    done c.change.new.self changed) c.change.ensures.ok

pub returns-in-Some-clause-refused : goal.returns-in-Some-clause-refused
returns-in-Some-clause-refused c =
    IfErr-weaker c.change.result _ _ (λ fault refused other. KeepsText-content c.args.frame.now (shown c.args.place) c.args.edit c.in-Some.content.now (sym c.in-Some.ensures.value)
    fault (refused other)) c.change.ensures.refused

pub returns-in-Some-clause-err : goal.returns-in-Some-clause-err
returns-in-Some-clause-err c =
    on_err_weaker c.change.result (with_value-held c.args.frame.now (shown c.args.place) [] 0 c.in-Some.content.now (sym c.in-Some.ensures.value) c.change.new.self) c.change.ensures.err
