use Rattle.std.proofs.Common.{arith}
use Rattle.std.proofs.lemmas.Result.{err_from_is_err_and}
use Rattle.tcl_text.proofs.SortLemmas.{keyed-refused}
use Rattle.tcl_text.proofs.commands.sorting.keyed.Goals as goal

pub returns-in_err-key-clause-err : goal.returns-in_err-key-clause-err
returns-in_err-key-clause-err c =
    let p = err_from_is_err_and c.from_residual.result c.from_residual.ensures.1 in
    rw (p.1, p.2) (keyed-refused _ c.args.items.now c.loop-item.pairs.items c.loop-item.item-index c.item-item.result (omega arith) c.item-item.is c.loop-item.invariant c.in_err-key.ensures)
