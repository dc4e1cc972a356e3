use Rattle.std.proofs.Common.{rules, arith}
use Rattle.tcl_text.proofs.GlobPieces.{Spans-none, Spans-more, Spans-many, Spans-stuck}
use Rattle.tcl_text.proofs.glob.run_of.Goals as goal

pub loop-rest-init : goal.loop-rest-init
loop-rest-init c = (search rules, Spans-none _, omega arith)

pub overflow_add-parts : goal.overflow_add-parts
overflow_add-parts c = omega (arith, c.in_ok-rest.ensures.shorter)

pub loop-rest-preserved : goal.loop-rest-preserved
loop-rest-preserved c = (
  search rules,
  Spans-more _ _ _ _ c.loop-rest.invariant.1 (c.has_part.ensures.0 c.loop-rest-test.true) c.in_ok-rest.ensures.behind,
  omega (arith, c.in_ok-rest.ensures.shorter),
)

pub returns-then-parts-most-clause-none : goal.returns-then-parts-most-clause-none
returns-then-parts-most-clause-none c = λ text short m.
    Spans-many _ _ _ c.args.most c.loop-rest.invariant.1 (c.has_part.ensures.0 c.loop-rest-test.true) c.if-parts-most.true text short m

pub returns-in_err-rest-clause-none : goal.returns-in_err-rest-clause-none
returns-in_err-rest-clause-none c =
    rw c.from_residual.ensures (λ text short m. Spans-stuck _ _ _ c.loop-rest.invariant.1 (c.has_part.ensures.0 c.loop-rest-test.true) c.in_err-rest.ensures.none text m)
