use Rattle.std.proofs.Common.{◌≡◌, ◌∙◌, ◌-◌, ℕ, List, Ok, ap, arith, drop, length, sym, subst}
use Rattle.tcl_text.specs.ListCursor.{IsListFrom}
use Rattle.tcl_text.specs.ListString.{items_kept}
use Rattle.tcl_text.specs.Readings.{list_of}
use Rattle.tcl_text.proofs.CursorLemmas.{begins, begins_items}
use Rattle.tcl_text.proofs.ElementLemmas.{skip_white_within}
use Rattle.tcl_text.proofs.list_cursor.ListCursor.new.Goals as goal

pub overflow_sub-place : goal.overflow_sub-place
overflow_sub-place c = omega (arith, ap length c.behind_white.ensures, skip_white_within c.as_str-characters.result.now)

pub invariant_of-result : goal.invariant_of-result
invariant_of-result c =
    let characters = c.as_str-characters.result.now in
    let trimmed = c.behind_white.result.now in
    subst (λ (bs : List ℕ). IsListFrom bs (length characters - length trimmed)) (c.as_str-characters.ensures.bytes ∙ sym c.in_ok-text.ensures.ok)
    (begins characters trimmed _ c.in_ok-_found._found c.in_ok-_found.ensures c.behind_white.ensures c.behind_white.utf8)

pub returns : goal.returns
returns c =
    let characters = c.as_str-characters.result.now in
    let trimmed = c.behind_white.result.now in
    subst (λ (bs : List ℕ). list_of c.args.text.now ≡ Ok (items_kept (drop (length characters - length trimmed) bs))) (c.as_str-characters.ensures.bytes ∙ sym c.in_ok-text.ensures.ok)
    (ap list_of (sym c.as_str-characters.ensures.bytes) ∙ begins_items characters trimmed _ c.in_ok-_found._found c.in_ok-_found.ensures c.behind_white.ensures)
