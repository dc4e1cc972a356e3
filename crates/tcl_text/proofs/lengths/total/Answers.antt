use Rattle.std.proofs.Common.{◌≡◌, ◌+◌, ap, arith, length}
use Rattle.tcl_text.proofs.LengthLemmas.{total_step, total_within}
use Rattle.tcl_text.proofs.lengths.total.Goals as goal

pub loop-text-preserved : goal.loop-text-preserved
loop-text-preserved c =
    let step = total_step c.args.texts.now c.loop-text.text-index c.text-item.result (omega arith) c.text-item.is in
    let bytes : length c.as_str.result.now ≡ length c.text-item.result = ap length c.as_str.ensures.bytes in
    (omega (arith, step, bytes, c.in_ok-sum.ensures.exact), c.in_ok-sum.ensures.within)

pub returns-in_err-sum-clause-none : goal.returns-in_err-sum-clause-none
returns-in_err-sum-clause-none c =
    let step = total_step c.args.texts.now c.loop-text.text-index c.text-item.result (omega arith) c.text-item.is in
    let within = total_within c.args.texts.now (c.loop-text.text-index + 1) in
    let bytes : length c.as_str.result.now ≡ length c.text-item.result = ap length c.as_str.ensures.bytes in
    rw c.from_residual.ensures (omega (arith, step, within, bytes, c.in_err-sum.ensures.none))
