use Rattle.std.proofs.Common.{◌≡◌, ℕ, List, Bor, [], map, reverse, ap, sym, ◌∙◌}
use Rattle.panels_text.specs.declared.indents.Opened.{Opened}
use Rattle.panels_text.proofs.UnreadLemmas.{displaced_by, displaced_end, displaced_hit, displaced_miss, lines_gone, lines_left}
use Rattle.panels_text.proofs.indents.displaced.Goals as goal

pub loop-row-init : goal.loop-row-init
loop-row-init c =
    let now : Bor (List ℕ) → List ℕ = λ line. line.now in
    let rows = c.deref-row-items.result.now in
    ap (λ (opened : List Opened). displaced_by c.args.first (reverse opened) (map now rows)) c.new-opened.ensures.items
    ∙ ap (displaced_by c.args.first []) (ap (map now) c.deref-row-items.ensures.value ∙ c.in_ok-rows.ensures)

pub returns-in-Some : goal.returns-in-Some
returns-in-Some c =
    displaced_hit c.loop-row.line (reverse c.loop-row.opened.items) _ _ _ c.in-Some.brace _ (lines_left c.deref-row-items.result.now c.loop-row.row-index (record { ref_ptr = (0, 0); now = [] }) c.loop-row-test.true)
    (sym c.in-Some.is ∙ c.in_ok-found.ensures.found) c.loop-row.invariant

pub loop-row-preserved : goal.loop-row-preserved
loop-row-preserved c =
    let left = rw c.in-None.is at c.in_ok-found.ensures.left in
    displaced_miss c.loop-row.line c.saturating_add-line.result (reverse c.loop-row.opened.items) (reverse c.pass.new.opened.items) _ _ _ _
    (lines_left c.deref-row-items.result.now c.loop-row.row-index (record { ref_ptr = (0, 0); now = [] }) c.loop-row-test.true)
    (sym c.in-None.is ∙ c.in_ok-found.ensures.found) c.saturating_add-line.ensures left c.loop-row.invariant

pub returns : goal.returns
returns c = displaced_end c.loop-row.line (reverse c.loop-row.opened.items) _ _ (lines_gone c.deref-row-items.result.now c.loop-row.row-index c.loop-row-test.false) c.loop-row.invariant
