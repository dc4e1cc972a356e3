use Rattle.std.proofs.Common.{sym, ◌∙◌}
use Rattle.tk_session.specs.Session.{IsEndLine}
use Rattle.tk_session.proofs.LineLaws.{end_line_of-some, end_line_of-spelled}
use Rattle.tk_session.proofs.Picked.{if_some}
use Rattle.tk_session.proofs.one_line.read_end.Goals as goal

pub returns-clause-said : goal.returns-clause-said
returns-clause-said c =
    if_some c.end_line.result (λ moment. IsEndLine c.args.line.now moment) (λ moment found. end_line_of-some c.args.line.now moment (sym c.end_line.ensures ∙ found))

pub returns-clause-all : goal.returns-clause-all
returns-clause-all c moment is = c.end_line.ensures ∙ end_line_of-spelled c.args.line.now moment is
