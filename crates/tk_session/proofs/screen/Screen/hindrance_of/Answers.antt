use Rattle.std.proofs.Common.{sym, subst}
use Rattle.tk_route.specs.Refusals.{IsFirst, NoneApplies, Refuses, faults_beside}
use Rattle.tk_session.proofs.EventLaws.{first_hindrance, no_hindrance}
use Rattle.tk_session.proofs.screen.Screen.hindrance_of.Goals as goal

pub returns-in-Ok : goal.returns-in-Ok
returns-in-Ok c =
    let screen = c.args.self.now in
    let event = c.args.event.now in
    sym (no_hindrance screen event
    (subst (λ rects. NoneApplies (Refuses rects screen.moment event.moment event.line) faults_beside) c.as_slice-rects.ensures c.in-Ok.ensures))

pub returns-in-Err : goal.returns-in-Err
returns-in-Err c =
    let screen = c.args.self.now in
    let event = c.args.event.now in
    let fault = c.in-Err.fault in
    sym (first_hindrance screen event fault
    (subst (λ rects. IsFirst (Refuses rects screen.moment event.moment event.line) faults_beside fault) c.as_slice-rects.ensures c.in-Err.ensures))
