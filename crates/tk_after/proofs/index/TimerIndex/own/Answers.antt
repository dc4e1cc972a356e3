use Rattle.std.proofs.Common.{ap, ◌∙◌}
use Rattle.tk_after.specs.Keys.{marks_in, marks_of}
use Rattle.tk_after.proofs.Marks.{between}
use Rattle.tk_after.proofs.index.TimerIndex.own.Goals as goal

pub returns : goal.returns
returns c =
    let range = c.range.ensures.between c.new.ensures.exhausted in
    ap marks_in (rw (c.new.ensures.start, c.new.ensures.end) at range) ∙ between c.args.owner c.self.inside.marks.entries c.self.invariant.1 ∙ ap (marks_of c.args.owner) c.self.view_is
