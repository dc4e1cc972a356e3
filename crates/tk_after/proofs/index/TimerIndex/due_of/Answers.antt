use Rattle.std.proofs.Common.{ap, ◌∙◌, option_map}
use Rattle.tk_base.specs.Numbered.{numbered}
use Rattle.tk_after.specs.Keys.{Mark, mark_number, marks_of}
use Rattle.tk_after.proofs.Marks.{look}
use Rattle.tk_after.proofs.index.TimerIndex.due_of.Goals as goal

pub returns : goal.returns
returns c =
    c.copied.ensures ∙ c.get.ensures.value ∙ look c.args.owner c.args.id c.self.inside.marks.entries
    ∙ ap (λ rows. option_map (λ (mark : Mark). mark.due) (numbered mark_number c.args.id (marks_of c.args.owner rows))) c.self.view_is
