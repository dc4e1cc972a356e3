use Rattle.std.proofs.Common.{sym, ◌∙◌}
use Rattle.tk_session.specs.OneLine.{IsLineOfEvent}
use Rattle.tk_session.specs.declared.stage.Format.TheVariants.{Second}
use Rattle.tk_session.proofs.EventLaws.{event_line_of-some, event_line_of-spelled}
use Rattle.tk_session.proofs.Picked.{if_some}
use Rattle.tk_session.proofs.one_line.read_event.Goals as goal

pub returns-clause-said : goal.returns-clause-said
returns-clause-said c =
    if_some c.event_line.result (λ event. IsLineOfEvent c.args.apps.now c.args.line.now event)
    (λ event found. event_line_of-some Second c.args.apps.now c.args.line.now event (sym c.event_line.ensures ∙ found))

pub returns-clause-all : goal.returns-clause-all
returns-clause-all c event is = c.event_line.ensures ∙ event_line_of-spelled Second c.args.apps.now c.args.line.now event is
