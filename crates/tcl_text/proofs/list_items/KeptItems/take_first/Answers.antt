use Rattle.std.proofs.Common.{◌≡◌, ◌∙◌, ◌+◌, ◌<◌, ◌≤◌, ℕ, List, ap, arith, drop, length, sym, take}
use Rattle.tcl_text.proofs.ItemLemmas.{first_kept}
use Rattle.tcl_text.proofs.list_items.KeptItems.take_first.Goals as goal

pub returns-clause-ok : goal.returns-clause-ok
returns-clause-ok c =
    let kept : List (List ℕ) = c.self.inside.list.value in
    let taken : ℕ = c.self.inside.taken in
    let held : c.as_ref-list.result.now ≡ kept = c.as_ref-list.ensures in
    let other : taken ≡ c.len.result → ⊥ = c.if-self-len.false in
    let within : taken ≤ length kept = c.self.invariant in
    let inside : taken < length kept = omega (arith, c.len.ensures, ap length held, other, within) in
    sym c.self.view_is ∙ first_kept kept taken c.in_ok-item.item inside (ap (λ (xs : List (List ℕ)). drop taken (take (taken + 1) xs)) (sym held) ∙ c.in_ok-item.ensures)
