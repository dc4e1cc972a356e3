use Rattle.tkhost.proofs.Happens.{Came}
use Rattle.tkhost.proofs.playing.line_all.Given as goal

-- those up to the index have come
abbrev pub invariant-loop-event : goal.invariant-loop-event
invariant-loop-event g l = Came g.M.AliasMeaning.answer l.session.apps l.session.events l.event-index l.fn.host.held l.host.held
