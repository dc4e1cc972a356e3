use Rattle.std.proofs.Common.{◌≡◌, Err, arith, rules}
use Rattle.tcl_text.proofs.KeptSteps.{parts_long, room_left, spliced_done, values_long}
use Rattle.tcl_text.proofs.FaultLemmas.{fault_told}
use Rattle.tcl_text.proofs.list_string.ListString.spliced.Goals as goal

pub returns-in_err-values-clause-too_long : goal.returns-in_err-values-clause-too_long
returns-in_err-values-clause-too_long c =
    let same : c.from_residual.result ≡ Err c.in_err-values.field-0.0 = search rules in
    fault_told _ _ _ same (λ n. values_long c.args.self.now c.args.values.now c.args.from c.args.to (c.in_err-values.ensures.too_long n))

pub returns-then-width-gt-MAX_STRING-clause-too_long : goal.returns-then-width-gt-MAX_STRING-clause-too_long
returns-then-width-gt-MAX_STRING-clause-too_long c = λ _.
    parts_long c.args.self.now c.args.values.now c.in_ok-list.list c.in_ok-values.values c.in_ok-behind.behind c.args.from c.args.to c.len.result c.len.ensures
    c.in_ok-values.ensures.ok c.in_ok-list.ensures c.in_ok-behind.ensures (omega arith)

pub push-requires-2 : goal.push-requires-2
push-requires-2 c = room_left c.in_ok-list.list c.in_ok-values.values _ c.in_ok-behind.behind c.in_ok-push.ensures.ok (omega arith)

pub returns-clause-ok : goal.returns-clause-ok
returns-clause-ok c =
    spliced_done c.args.self.now c.args.values.now _ _ _ _ _ c.args.from c.args.to c.len.result c.len.ensures
    c.in_ok-values.ensures.ok c.in_ok-list.ensures c.in_ok-behind.ensures c.in_ok-push.ensures.ok c.in_ok-push-2.ensures.ok
