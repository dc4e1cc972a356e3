use Rattle.std.proofs.Common.{◌∙◌, ℕ, List, arith, length, sym, subst}
use Rattle.std.proofs.lemmas.Bool.{eqb-true, eqb-false}
use Rattle.tcl_text.specs.ListString.{KeepsList}
use Rattle.tcl_text.proofs.KeptViews.{behind_blank, kept, seen_form, seen_nothing, seen_short}
use Rattle.tcl_text.proofs.list_string.ListString.as_str.Goals as goal
use Rattle.tcl_text.proofs.list_string.ListString.as_str.Goals.{After-is_empty}

-- what is known of the string, as it is read
keeps : (c : After-is_empty) → KeepsList c.as_str-string.result.now c.self.inside.ends.items c.args.self.now
keeps c = subst (λ (s : List ℕ). KeepsList s c.self.inside.ends.items c.args.self.now) (sym c.as_str-string.ensures.value) (kept _ _ _ _ c.self.invariant.0 c.self.view_is)

pub range_from-requires : goal.range_from-requires
range_from-requires c = λ _.
    let string = c.as_str-string.result.now in
    let other = eqb-false (length string) 0 (sym c.is_empty.ensures ∙ c.if-is_empty.false) in
    behind_blank string _ _ (keeps (goal.at.range_from-requires c).After-is_empty) c.as_str-string.utf8 (omega (arith, other))

pub returns-then-is_empty-clause-form : goal.returns-then-is_empty-clause-form
returns-then-is_empty-clause-form c =
    let string = c.as_str-string.result.now in
    seen_nothing string _ _ (keeps (goal.at.returns-then-is_empty-clause-form c).After-is_empty) (eqb-true (length string) 0 (sym c.is_empty.ensures ∙ c.if-is_empty.true))

pub returns-then-is_empty-clause-short : goal.returns-then-is_empty-clause-short
returns-then-is_empty-clause-short c = seen_short _ _ _ (keeps (goal.at.returns-then-is_empty-clause-short c).After-is_empty)

pub returns-else-is_empty-clause-form : goal.returns-else-is_empty-clause-form
returns-else-is_empty-clause-form c = c.range_from.ensures.value ∙ seen_form _ _ _ (keeps (goal.at.returns-else-is_empty-clause-form c).After-is_empty)

pub returns-else-is_empty-clause-short : goal.returns-else-is_empty-clause-short
returns-else-is_empty-clause-short c = seen_short _ _ _ (keeps (goal.at.returns-else-is_empty-clause-short c).After-is_empty)
