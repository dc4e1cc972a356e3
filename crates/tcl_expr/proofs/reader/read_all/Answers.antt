use Rattle.std.proofs.Common.{[], arith}
use Rattle.std.proofs.lemmas.Result.{err_from_is_err_and}
use Rattle.tcl_expr.specs.Reading.{AtOperand, tree_reading}
use Rattle.tcl_expr.proofs.ReadLemmas.{token_at, token_fails_at}
use Rattle.tcl_expr.proofs.reader.read_all.Goals as goal

pub loop-at-preserved : goal.loop-at-preserved
loop-at-preserved c =
    record {
      within = omega arith;
      reads =
          token_at c.loop-at.parser c.take_token.new.parser c.args.source.now c.loop-at.at c.in_ok-skip.skip c.min.result (tree_reading 0 AtOperand [] c.args.source.now) c.loop-at-test.true
          c.min.ensures c.in_ok-skip.ensures c.loop-at.invariant.reads;
    }

pub returns-in_err-skip-clause-fault : goal.returns-in_err-skip-clause-fault
returns-in_err-skip-clause-fault c =
    let p = err_from_is_err_and c.from_residual.result c.from_residual.ensures.1 in
    rw (p.1, p.2)
    (token_fails_at c.loop-at.parser c.take_token.new.parser c.args.source.now c.loop-at.at c.in_err-skip.field-0.0 (tree_reading 0 AtOperand [] c.args.source.now) c.loop-at-test.true
    c.in_err-skip.ensures c.loop-at.invariant.reads)
