use Rattle.std.proofs.Common.{◌≡◌, Err, ap, arith, rules}
use Rattle.std.proofs.lemmas.List.{drop_all}
use Rattle.panels_bench.proofs.EntryLemmas.{sights_next}
use Rattle.panels_bench.proofs.ValueLemmas.{left_end, left_none, left_refused, left_step, match_err}
use Rattle.panels_bench.specs.Entries.{sights_from}
use Rattle.panels_bench.proofs.reading.push_sights.Goals as goal

pub loop-part-preserved : goal.loop-part-preserved
loop-part-preserved c = record {
  within = omega (arith, c.in_ok-before.ensures.moment);
  all = left_step _ _ _ _ _ _ _ _ (sights_next c.args.panels.now c.args.end c.loop-part.before c.args.parts.now c.loop-part.part-index c.part-item.result _ c.loop-part-test.true c.part-item.is c.in_ok-before.ensures.said)
      c.in_ok-push_sight.ensures.1 c.in_ok-push_sight.ensures.2 c.loop-part.invariant.all;
}

pub returns-in_err-before : goal.returns-in_err-before
returns-in_err-before c =
    let same : c.from_residual.result ≡ Err c.in_err-before.field-0.0 = search rules in
    match_err _ _ _ _ same (λ said. left_none _ _ _ _ (sights_next c.args.panels.now c.args.end c.loop-part.before c.args.parts.now c.loop-part.part-index c.part-item.result _ c.loop-part-test.true c.part-item.is (c.in_err-before.ensures.said said)) c.loop-part.invariant.all)

pub returns-in_err-push_sight : goal.returns-in_err-push_sight
returns-in_err-push_sight c =
    let same : c.from_residual-in_err-push_sight.result ≡ Err c.in_err-push_sight.field-0.0 = search rules in
    match_err _ _ _ _ same (λ said.
    left_refused _ _ _ _ _ _ (sights_next c.args.panels.now c.args.end c.loop-part.before c.args.parts.now c.loop-part.part-index c.part-item.result _ c.loop-part-test.true c.part-item.is c.in_ok-before.ensures.said)
    (c.in_err-push_sight.ensures said) c.loop-part.invariant.all)

pub returns : goal.returns
returns c = left_end _ _ _ _ (ap (sights_from c.args.panels.now c.args.end c.loop-part.before) (drop_all c.loop-part.part-index c.args.parts.now c.loop-part-test.false)) c.loop-part.invariant.all
