use Rattle.std.proofs.Common.{◌++◌, take}
use Rattle.tkhost.specs.Calls.{lining}
use Rattle.panels_film.proofs.Histories.{one_handed}
use Rattle.panels_film.proofs.playing.hand.Goals as goal

pub loop-event-preserved : goal.loop-event-preserved
loop-event-preserved g c calls begun =
    let at = c.loop-event in
    one_handed g.M.AliasMeaning.answer c.args.events.now at.event-index c.event-item.result calls c.hand_line.new.live.held c.loop-event-test.true c.event-item.is
    (c.in_ok-hand_line.ensures.history (calls ++ lining (take at.event-index c.args.events.now)) (at.invariant calls begun))
