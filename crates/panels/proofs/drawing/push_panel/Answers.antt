use Rattle.std.proofs.Common.{◌++◌}
use Rattle.panels.specs.Picture.{panel_body, panel_place, panel_text, panel_title}
use Rattle.panels.proofs.Joined.{joined}
use Rattle.panels.proofs.drawing.push_panel.Goals as goal

pub returns : goal.returns
unfolding panel_text
returns c =
    let panel = c.args.panel.now in
    let old = c.args.text.now.items in
    let titled = joined old (panel_place panel.rect) (panel_title panel) c.in_ok-push_place.ensures c.in_ok-push_title.ensures in
    joined old (panel_place panel.rect ++ panel_title panel) (panel_body panel) titled c.in_ok-push_body.ensures
