use Rattle.std.proofs.Common.{◌++◌}
use Rattle.panels.specs.Picture.{content, edges, view_box, window_ground, window_open, window_shown}
use Rattle.panels.proofs.Joined.{joined}
use Rattle.panels.proofs.drawing.push_shown.Goals as goal

pub returns : goal.returns
unfolding window_shown
returns c =
    let window = c.args.window.now in
    let shape = window.shape in
    let old = c.args.text.now.items in
    let viewed = joined old (window_open window) (view_box shape) c.in_ok-push_open.ensures c.in_ok-push_view.ensures in
    let grounded = joined old (window_open window ++ view_box shape) (window_ground shape) viewed c.in_ok-push_ground.ensures in
    let edged = joined old (window_open window ++ view_box shape ++ window_ground shape) (edges shape) grounded c.in_ok-push_edges.ensures in
    joined old (window_open window ++ view_box shape ++ window_ground shape ++ edges shape) (content window) edged c.in_ok-push_content.ensures
