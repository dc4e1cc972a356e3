use Rattle.std.proofs.Common.{take, refl}
use Rattle.tk_session.specs.Session.{newest_first, rects_of}
use Rattle.tkhost.proofs.Happens.{line_taken, may_line, one_came}
use Rattle.tkhost.proofs.playing.line_all.Goals as goal

pub tested_line-requires : goal.tested_line-requires
tested_line-requires g c =
    let at = c.loop-event in
    let event = c.event-item.result in
    let session = c.args.session.now in
    record {
      begun = may_line g.M.AliasMeaning.answer session.apps session.events at.event-index c.args.host.now.held at.host.held at.invariant;
      tested = line_taken g.M.AliasMeaning.answer session.apps session.events at.event-index c.args.host.now.held at.host.held at.invariant event
          (rw c.events-event-items.ensures.events at c.loop-event-test.true) (rw c.events-event-items.ensures.events at c.event-item.is);
    }

pub loop-event-preserved : goal.loop-event-preserved
loop-event-preserved g c =
    let at = c.loop-event in
    let event = c.event-item.result in
    let session = c.args.session.now in
    let told = c.in_ok-tested_line.ensures.lined (rects_of session.apps) (newest_first (take at.event-index session.events)) at.invariant.known in
    one_came g.M.AliasMeaning.answer session.apps session.events at.event-index c.args.host.now.held at.host.held at.invariant event
    (rw c.events-event-items.ensures.events at c.loop-event-test.true) (rw c.events-event-items.ensures.events at c.event-item.is)
    at.host c.tested_line.new.self refl told c.in_ok-tested_line.ensures.history
