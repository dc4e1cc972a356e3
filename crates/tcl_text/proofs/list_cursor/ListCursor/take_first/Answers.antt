use Rattle.std.proofs.Common.{◌≡◌, ◌∙◌, ◌-◌, ℕ, List, ◌∷◌, ap, arith, drop, length, sym, subst}
use Rattle.std.specs.Str.{IsCharBoundary}
use Rattle.std.proofs.lemmas.Bool.{eqb-true}
use Rattle.std.proofs.lemmas.List.{length-drop}
use Rattle.std.proofs.lemmas.Str.{IsCharBoundary-from_drop}
use Rattle.tcl_text.specs.ListCursor.{IsListFrom}
use Rattle.tcl_text.specs.ListString.{items_kept}
use Rattle.tcl_text.proofs.CursorLemmas.{none_left, taken_items, taken_place}
use Rattle.tcl_text.proofs.ElementLemmas.{skip_white_within}
use Rattle.tcl_text.proofs.list_cursor.ListCursor.take_first.Goals as goal

pub range_from-rest-requires : goal.range_from-rest-requires
range_from-rest-requires c = λ _.
    subst (λ (bs : List ℕ). IsCharBoundary bs c.self.inside.place) (sym c.as_str-characters.ensures.bytes)
    (IsCharBoundary-from_drop c.self.inside.text c.self.inside.place c.self.invariant.within c.self.invariant.utf8)

pub returns-then-is_empty-clause-ok : goal.returns-then-is_empty-clause-ok
returns-then-is_empty-clause-ok c =
    let rest = c.range_from-rest.result.now in
    let place = c.self.inside.place in
    let is : rest ≡ drop place c.self.inside.text = c.range_from-rest.ensures.value ∙ ap (λ (bs : List ℕ). drop place bs) c.as_str-characters.ensures.bytes in
    let none = sym c.self.view_is ∙ none_left c.self.inside.text rest place c.self.invariant is (eqb-true (length rest) 0 (sym c.is_empty.ensures ∙ c.if-is_empty.true)) in
    (none, none)

pub overflow_sub-self : goal.overflow_sub-self
overflow_sub-self c =
    omega (arith, ap length c.behind_white.ensures, skip_white_within c.in-Ok.behind.now, c.in-Ok.ensures.0, ap length c.range_from-rest.ensures.value, length-drop c.self.inside.place c.as_str-characters.result.now)

pub invariant_of-self : goal.invariant_of-self
invariant_of-self c =
    let text = c.self.inside.text in
    let place = c.self.inside.place in
    let rest = c.range_from-rest.result.now in
    let trimmed = c.behind_white.result.now in
    let is : rest ≡ drop place text = c.range_from-rest.ensures.value ∙ ap (λ (bs : List ℕ). drop place bs) c.as_str-characters.ensures.bytes in
    subst (λ (bs : List ℕ). IsListFrom text (length bs - length trimmed)) (sym c.as_str-characters.ensures.bytes)
    (taken_place text rest place c.self.invariant is c.in-Ok.item c.in-Ok.behind.now trimmed c.in-Ok.ensures.0 c.in-Ok.ensures.1 c.in-Ok.ensures.2 c.behind_white.ensures c.behind_white.utf8)

pub returns-in-Ok-clause-ok : goal.returns-in-Ok-clause-ok
returns-in-Ok-clause-ok c =
    let text = c.self.inside.text in
    let place = c.self.inside.place in
    let rest = c.range_from-rest.result.now in
    let trimmed = c.behind_white.result.now in
    let item : List ℕ = c.in-Ok.item in
    let is : rest ≡ drop place text = c.range_from-rest.ensures.value ∙ ap (λ (bs : List ℕ). drop place bs) c.as_str-characters.ensures.bytes in
    sym c.self.view_is
    ∙ subst (λ (bs : List ℕ). items_kept (drop place text) ≡ item ∷ items_kept (drop (length bs - length trimmed) text)) (sym c.as_str-characters.ensures.bytes)
    (taken_items text rest place c.self.invariant is item c.in-Ok.behind.now trimmed c.in-Ok.ensures.0 c.in-Ok.ensures.1 c.in-Ok.ensures.2 c.behind_white.ensures)
