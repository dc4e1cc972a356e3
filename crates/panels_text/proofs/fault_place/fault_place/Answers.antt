use Rattle.std.proofs.Common.{ℕ, List, Bor, [], map, ap, sym, ◌∙◌}
use Rattle.panels_text.specs.Unread.{at_end, misread_at}
use Rattle.panels_text.specs.declared.fault_place.Standing.TheVariants.{Whole}
use Rattle.panels_text.proofs.UnreadLemmas.{lines_gone, lines_left, misread_end, misread_from, misread_hit, misread_miss}
use Rattle.panels_text.proofs.fault_place.fault_place.Goals as goal

pub loop-row-init : goal.loop-row-init
loop-row-init c =
    let now : Bor (List ℕ) → List ℕ = λ line. line.now in
    let ending = at_end c.args.line c.args.script.now in
    let rows = c.deref-row-items.result.now in
    ap (λ (text : List ℕ). misread_from ending c.args.line c.args.line text Whole (map now rows)) c.new.ensures.items
    ∙ ap (misread_from ending c.args.line c.args.line [] Whole) (ap (map now) c.deref-row-items.ensures.value ∙ c.in_ok-rows.ensures)

pub returns-in-Some : goal.returns-in-Some
returns-in-Some c =
    let same = rw c.in-Some.is at c.in_ok-found.ensures.same in
    c.in_ok-told-in-Some.ensures
    ∙ ap (λ n. misread_at n c.in-Some.fault) same
    ∙ misread_hit (at_end c.args.line c.args.script.now) c.loop-row.front.number c.loop-row.front.begun_at c.loop-row.front.text.items c.loop-row.front.last _ _ _ c.in-Some.fault _
    (lines_left c.deref-row-items.result.now c.loop-row.row-index (record { ref_ptr = (0, 0); now = [] }) c.loop-row-test.true) (sym c.in-Some.is ∙ c.in_ok-found.ensures.found) c.loop-row.invariant

pub loop-row-preserved : goal.loop-row-preserved
loop-row-preserved c =
    let number = rw c.in-None.is at c.in_ok-found.ensures.number in
    let begun_at = rw c.in-None.is at c.in_ok-found.ensures.begun_at in
    let text = rw c.in-None.is at c.in_ok-found.ensures.text in
    let last = rw c.in-None.is at c.in_ok-found.ensures.last in
    misread_miss (at_end c.args.line c.args.script.now) c.loop-row.front.number c.read.new.self.number c.loop-row.front.begun_at c.read.new.self.begun_at
    c.loop-row.front.text.items c.read.new.self.text.items c.loop-row.front.last c.read.new.self.last
    _ _ _ _ (lines_left c.deref-row-items.result.now c.loop-row.row-index (record { ref_ptr = (0, 0); now = [] }) c.loop-row-test.true)
    (sym c.in-None.is ∙ c.in_ok-found.ensures.found) number begun_at text last c.loop-row.invariant

pub returns : goal.returns
returns c =
    let front = c.loop-row.front in
    c.in_ok-told.ensures
    ∙ misread_end (at_end c.args.line c.args.script.now) front.number front.begun_at front.text.items front.last _ _ (lines_gone c.deref-row-items.result.now c.loop-row.row-index c.loop-row-test.false) c.loop-row.invariant
