use Rattle.std.proofs.Common.{◌≡◌, List, Option, ℕ, ap, ◌∙◌, sym, subst}
use Rattle.std.specs.Prelude.{find, option_map}
use Rattle.std.specs.Str.{bytes_eq}
use Rattle.tk_base.specs.Numbered.{numbered}
use Rattle.tk_after.specs.After.{name_of}
use Rattle.tk_after.specs.declared.keys.Name.{Name}
use Rattle.tk_after.specs.Keys.{Mark, mark_number, marks_of}
use Rattle.tk_after.proofs.Names.{named_at}
use Rattle.tk_after.proofs.index.TimerIndex.named_as.Goals as goal

pub returns-then-is_name_of : goal.returns-then-is_name_of
returns-then-is_name_of c =
    c.listed.ensures
    ∙ ap (option_map mark_number)
    (subst (λ (rows : List (Name × Option ℕ)). numbered mark_number c.args.id (marks_of c.args.owner rows) ≡ find (λ (mark : Mark). bytes_eq (name_of mark.id) c.args.text.now) (marks_of c.args.owner rows))
    c.self.view_is
    (named_at c.args.owner c.args.id c.self.inside.marks.entries c.args.text.now c.self.invariant.1 c.ranges.id.fits (sym c.is_name_of.ensures ∙ c.if-is_name_of.true)))
