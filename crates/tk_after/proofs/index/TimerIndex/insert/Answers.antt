use Rattle.std.proofs.Common.{◌^◌, ◌<◌, [], ◌∷◌, ◌++◌, sym, ap, ◌∙◌, subst}
use Rattle.std.specs.List.{AllByRecursion}
use Rattle.std.specs.List.Sorted.{IsStrictlySortedBy}
use Rattle.std.specs.Map.{keys_of}
use Rattle.tk_base.specs.Numbered.{AllBelow}
use Rattle.tk_after.specs.Keys.{IsNumber, mark_number, marks_of, name, name_cmp}
use Rattle.tk_after.proofs.Marks.{absent_row, given_marks, given_others, small_given}
use Rattle.tk_after.proofs.index.TimerIndex.insert.Goals as goal

pub invariant_of-self-2 : goal.invariant_of-self-2
invariant_of-self-2 c =
    let rows = c.self.inside.marks.entries in
    let below = subst (λ rs. AllBelow mark_number c.args.id (marks_of c.args.owner rs)) (sym c.self.view_is) c.requires in
    let small : c.args.id < 2 ^ 64 = c.ranges.id.fits in
    (c.insert.ensures.ordered, subst (AllByRecursion IsNumber) (sym c.in_ok-insert.ensures.entries) (small_given (name c.args.owner c.args.id) c.args.due rows small c.self.invariant.1 (absent_row c.args.owner c.args.id rows below)))

pub returns-clause-own : goal.returns-clause-own
returns-clause-own c =
    let rows = c.self.inside.marks.entries in
    let below = subst (λ rs. AllBelow mark_number c.args.id (marks_of c.args.owner rs)) (sym c.self.view_is) c.requires in
    let sorted = subst (λ es. IsStrictlySortedBy name_cmp (keys_of es)) c.in_ok-insert.ensures.entries c.insert.ensures.ordered in
    ap (marks_of c.args.owner) c.in_ok-insert.ensures.entries ∙ given_marks c.args.owner c.args.id c.args.due rows below c.self.invariant.0 sorted
    ∙ ap (λ rs. marks_of c.args.owner rs ++ record { id = c.args.id; due = c.args.due } ∷ []) c.self.view_is

pub returns-clause-others : goal.returns-clause-others
returns-clause-others c =
    let rows = c.self.inside.marks.entries in
    let below = subst (λ rs. AllBelow mark_number c.args.id (marks_of c.args.owner rs)) (sym c.self.view_is) c.requires in
    λ other differ. ap (marks_of other) c.in_ok-insert.ensures.entries ∙ given_others c.args.owner c.args.id c.args.due rows (absent_row c.args.owner c.args.id rows below) other differ ∙ ap (marks_of other) c.self.view_is
