use Rattle.std.proofs.Common.{length, List, ap, arith}
use Rattle.std.specs.Vec.Iter.{into_iter_items}
use Rattle.tkhost.proofs.Adds.{not_refused, one_added}
use Rattle.tkhost.proofs.playing.add_all.Goals as goal

pub add-requires : goal.add-requires
add-requires g c =
    let at = c.loop-app in
    not_refused g.M.AliasMeaning.answer c.args.apps.now c.args.aliases.items (into_iter_items at.lists) at.app-index at.host.held at.invariant.added c.app-item.result c.loop-app-test.true c.app-item.is
    c.in-Some.list (into_iter_items c.next.new.self) c.in-Some.ensures.cases.0

pub loop-app-preserved : goal.loop-app-preserved
loop-app-preserved g c =
    let at = c.loop-app in
    record {
      added = one_added g.M.AliasMeaning.answer c.args.apps.now c.args.aliases.items (into_iter_items at.lists) at.app-index at.host.held at.invariant.added c.app-item.result c.loop-app-test.true c.app-item.is
          c.in-Some.list (into_iter_items c.next.new.self) c.in-Some.ensures.cases.0 c.add.new.host.held c.in_ok-add.ensures.history;
      len = omega (arith, at.invariant.len, ap (λ (xs : List _). length xs) c.in-Some.ensures.cases.0, c.in-Some.ensures.cases.1);
    }
