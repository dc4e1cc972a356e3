-- Lemmas on lines of a session that are written without their moment.
use Rattle.std.proofs.Common.{◌≡◌, ℕ, List, Option, Some, None, refl, sym, ap, ◌∙◌}
use Rattle.tk_session.proofs.EventLaws.{event_line_of-some, event_line_of-spelled}
use Rattle.tk_session.specs.OneLine.{IsLineOfEvent}
use Rattle.tk_session.specs.declared.session.AppBlock.{AppBlock}
use Rattle.tk_session.specs.declared.session.EventLine.{EventLine}
use Rattle.panels_bench.specs.Gestures.{event_in}

pub event_there : (panels : List AppBlock) (line : List ℕ) (event : EventLine) → IsLineOfEvent panels line event → event_in panels line ≡ Some event
event_there panels line event is = event_line_of-spelled _ panels line event is

by : (panels : List AppBlock) (line : List ℕ) (found : Option EventLine) → ((event : EventLine) → IsLineOfEvent panels line event → None ≡ Some event) → event_in panels line ≡ found → found ≡ None
by panels line None lacks is = refl
by panels line (Some event) lacks is = sym (lacks event (event_line_of-some _ panels line event is))

pub event_none : (panels : List AppBlock) (line : List ℕ) → ((event : EventLine) → IsLineOfEvent panels line event → None ≡ Some event) → event_in panels line ≡ None
event_none panels line lacks = by panels line (event_in panels line) lacks refl
