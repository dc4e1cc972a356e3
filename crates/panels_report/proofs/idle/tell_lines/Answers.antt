use Rattle.std.proofs.Common.{◌+◌, Option, drop, map, ap, ◌∙◌}
use Rattle.panels_film.specs.declared.notes.Note.{Note}
use Rattle.panels_text.proofs.Turns.{drop_at}
use Rattle.panels_report.specs.Cases.{told}
use Rattle.panels_report.specs.Idle.{tell_line, telling}
use Rattle.panels_report.proofs.Getting.{got}
use Rattle.panels_report.proofs.Idling.{lines_more}
use Rattle.panels_report.proofs.idle.tell_lines.Goals as goal

pub loop-number-preserved : goal.loop-number-preserved
loop-number-preserved c =
    let at = c.loop-number in
    let panels = c.args.panels.now in
    let notes = c.args.notes.now in
    let events = c.args.events.now in
    let event = c.index-events-number.result in
    let before = telling at.count (map told at.cases) in
    lines_more panels notes at.number (drop at.number events) (drop (at.number + 1) events) event before (telling c.in_ok-count.count (map told c.tell_line.new.cases)) _
    (drop_at events at.number event (c.loop-number-test.true, c.index-events-number.is))
    (c.in_ok-count.ensures ∙ ap (λ (note : Option Note). tell_line panels event note before) (got notes at.number c.get.result c.get.ensures.lookup)) at.invariant
