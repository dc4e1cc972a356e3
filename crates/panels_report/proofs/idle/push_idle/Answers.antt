use Rattle.std.proofs.Common.{List, ap, map, ◌∙◌}
use Rattle.std.proofs.lemmas.Result.{IfOk-weaker}
use Rattle.panels_film.specs.declared.notes.Note.{Note}
use Rattle.tk_session.specs.declared.session.AppBlock.{AppBlock}
use Rattle.tk_session.specs.declared.session.EventLine.{EventLine}
use Rattle.panels_report.specs.Cases.{told}
use Rattle.panels_report.specs.Idle.{tell_lines, telling}
use Rattle.panels_report.proofs.idle.push_idle.Goals as goal

pub returns-clause-told : goal.returns-clause-told
returns-clause-told c fails =
    let notes = c.in_ok-notes.notes.items in
    let before = telling 0 (map told c.args.cases.now) in
    IfOk-weaker c.tell_lines.result _ _
    (λ done is. (
      notes,
      c.in_ok-notes.ensures,
      is ∙ ap (λ (own : List Note). (tell_lines c.apps.result.now own 0 c.events.result.now before).cases) c.as_slice.ensures.value
          ∙ ap (λ (panels : List AppBlock). (tell_lines panels notes 0 c.events.result.now before).cases) c.apps.ensures.apps
          ∙ ap (λ (events : List EventLine). (tell_lines c.args.session.now.apps notes 0 events before).cases) c.events.ensures.events,
    ))
    c.tell_lines.ensures
