use Rattle.std.proofs.Common.{◌≡◌, List, ℕ, ◌+◌, ◌∷◌, [], map, drop, get_or}
use Rattle.std.specs.Borrow.{Bor}
use Rattle.panels.specs.Panes.{panes_from, panes_of}
use Rattle.panels.proofs.Maps.{drop-map_at}
use Rattle.panels.proofs.pane.panes_of.Goals as goal

pub loop-line-preserved : goal.loop-line-preserved
loop-line-preserved c =
    let at = c.loop-line in
    let lines = c.args.lines.now in
    let now = λ (line : Bor (List ℕ)). line.now in
    let none : Bor (List ℕ) = record { ref_ptr = (0, 0); now = [] } in
    let begins = drop-map_at now lines at.line-index none c.loop-line-test.true in
    let before : panes_from (map now lines) at.panes.items (now (get_or lines at.line-index none) ∷ drop (at.line-index + 1) (map now lines)) ≡ panes_of (map now lines) = rw begins at at.invariant in
    rw (c.in_ok-push.ensures.items, c.pane_in.ensures, c.parent_pane-parent.ensures, c.as_slice.ensures.value, c.word.ensures) before
