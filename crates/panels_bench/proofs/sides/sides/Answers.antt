use Rattle.std.proofs.Common.{drop, arith}
use Rattle.std.proofs.lemmas.List.{drop_all}
use Rattle.panels_bench.proofs.PanelLemmas.{panels_begin, panels_end, panels_step}
use Rattle.panels_bench.proofs.sides.sides.Goals as goal

pub loop-part-init : goal.loop-part-init
loop-part-init g c = panels_begin c.args.parts.now c.new-panels.result.items c.new-sides.result.items c.new-panels.ensures.items c.new-sides.ensures.items

pub loop-part-preserved : goal.loop-part-preserved
loop-part-preserved g c =
    panels_step _ _ c.part-item.result _ _ _ _ _ _ c.loop-part-test.true c.part-item.is c.in_ok-panel.ensures c.in_ok-side_of.ensures c.in_ok-push.ensures.items c.in_ok-push-2.ensures.items c.loop-part.invariant

pub returns : goal.returns
returns g c =
    panels_end c.args.parts.now (drop c.loop-part.part-index c.args.parts.now) c.loop-part.panels.items c.loop-part.sides.items
    (drop_all c.loop-part.part-index c.args.parts.now (omega (arith, c.loop-part-test.false))) c.loop-part.invariant
