use Rattle.std.proofs.Common.{◌≡◌, ◌+◌, ap, arith, length}
use Rattle.tcl_text.proofs.LengthLemmas.{behind_length, behind_within}
use Rattle.tcl_text.proofs.commands.lists.len_behind.Goals as goal

pub loop-item-preserved : goal.loop-item-preserved
loop-item-preserved c =
    let step = behind_length c.args.between.now c.args.items.now c.loop-item.item-index c.item-item.result (omega arith) c.item-item.is in
    let bytes : length c.as_str.result.now ≡ length c.item-item.result = ap length c.as_str.ensures.bytes in
    (omega (arith, step, bytes, c.in_ok-longer.ensures.exact, c.in_ok-size.ensures.exact), c.in_ok-size.ensures.within)

pub returns-in_err-longer-clause-none : goal.returns-in_err-longer-clause-none
returns-in_err-longer-clause-none c =
    let step = behind_length c.args.between.now c.args.items.now c.loop-item.item-index c.item-item.result (omega arith) c.item-item.is in
    let within = behind_within c.args.between.now c.args.items.now (c.loop-item.item-index + 1) in
    rw c.from_residual.ensures (omega (arith, step, within, c.in_err-longer.ensures.none))

pub returns-in_err-size-clause-none : goal.returns-in_err-size-clause-none
returns-in_err-size-clause-none c =
    let step = behind_length c.args.between.now c.args.items.now c.loop-item.item-index c.item-item.result (omega arith) c.item-item.is in
    let within = behind_within c.args.between.now c.args.items.now (c.loop-item.item-index + 1) in
    let bytes : length c.as_str.result.now ≡ length c.item-item.result = ap length c.as_str.ensures.bytes in
    rw c.from_residual-in_err-size.ensures (omega (arith, step, within, bytes, c.in_ok-longer.ensures.exact, c.in_err-size.ensures.none))
