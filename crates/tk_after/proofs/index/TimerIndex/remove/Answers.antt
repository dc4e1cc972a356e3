use Rattle.std.proofs.Common.{refl, sym, ap, ◌∙◌, subst}
use Rattle.std.specs.BTreeMap.{is_at}
use Rattle.std.specs.List.{AllByRecursion}
use Rattle.std.specs.Map.{lookup}
use Rattle.tk_base.specs.Numbered.{without}
use Rattle.tk_after.specs.Keys.{IsNumber, mark_number, marks_of, name, name_cmp}
use Rattle.tk_after.proofs.Marks.{small_taken, taken_marks, taken_others}
use Rattle.tk_after.proofs.index.TimerIndex.remove.Goals as goal

pub invariant_of-self : goal.invariant_of-self
invariant_of-self c =
    let rows = c.self.inside.marks.entries in
    (c.remove.ensures.ordered, subst (AllByRecursion IsNumber) (sym c.remove.ensures.entries) (small_taken rows c.args.owner c.args.id (lookup (is_at (name_cmp (name c.args.owner c.args.id))) rows) refl c.self.invariant.1))

pub returns-clause-own : goal.returns-clause-own
returns-clause-own c =
    let rows = c.self.inside.marks.entries in
    ap (marks_of c.args.owner) c.remove.ensures.entries
    ∙ taken_marks rows c.args.owner c.args.id (lookup (is_at (name_cmp (name c.args.owner c.args.id))) rows) refl c.self.invariant.0
    ∙ ap (λ rs. without mark_number c.args.id (marks_of c.args.owner rs)) c.self.view_is

pub returns-clause-others : goal.returns-clause-others
returns-clause-others c =
    let rows = c.self.inside.marks.entries in
    λ other differ. ap (marks_of other) c.remove.ensures.entries
    ∙ taken_others rows c.args.owner c.args.id (lookup (is_at (name_cmp (name c.args.owner c.args.id))) rows) refl other differ
    ∙ ap (marks_of other) c.self.view_is
