use Rattle.std.proofs.Common.{◌∙◌, ◌+◌, ◌-◌, ℕ, arith}
use Rattle.std.proofs.lemmas.Result.{err_from_is_err_and}
use Rattle.tcl_text.proofs.KeptLists.{ends_reach}
use Rattle.tcl_text.proofs.KeptSteps.{front_stays, moved_done, moved_more, same_stays}
use Rattle.tcl_text.proofs.list_string.push_ends.Goals as goal

pub overflow_sub-end : goal.overflow_sub-end
overflow_sub-end c = (let r = ends_reach c.args.from c.args.to c.args.others.now c.loop-end.end-index 0 c.requires (omega arith) in omega (arith, r.0))

pub overflow_add-end : goal.overflow_add-end
overflow_add-end c = (let r = ends_reach c.args.from c.args.to c.args.others.now c.loop-end.end-index 0 c.requires (omega arith) in omega (arith, r.1))

pub loop-end-preserved : goal.loop-end-preserved
loop-end-preserved c = moved_more (λ (e : ℕ). e - c.args.from + c.args.to) _ _ _ c.args.others.now c.loop-end.end-index (omega arith) c.loop-end.invariant c.in_ok-push.ensures.items

pub returns-clause-ok : goal.returns-clause-ok
returns-clause-ok c = moved_done c.args.from c.args.to _ _ c.args.others.now c.loop-end.end-index (omega arith) c.loop-end.invariant

pub returns-in_err-reserve-clause-err : goal.returns-in_err-reserve-clause-err
returns-in_err-reserve-clause-err c =
    let p = err_from_is_err_and c.from_residual.result c.from_residual.ensures.1 in
    rw p.1 (same_stays _ _ c.reserve.ensures.items)

pub returns-in_err-push-clause-err : goal.returns-in_err-push-clause-err
returns-in_err-push-clause-err c =
    let p = err_from_is_err_and c.from_residual-in_err-push.result c.from_residual-in_err-push.ensures.1 in
    rw p.1 (front_stays _ _ _ (c.in_err-push.ensures.items ∙ c.loop-end.invariant))
