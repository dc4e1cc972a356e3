use Rattle.std.proofs.Common.{string_bytes}
use Rattle.std.proofs.lemmas.Result.{IfOk-weaker}
use Rattle.panels_report.proofs.Idling.{problem_here}
use Rattle.panels_report.proofs.idle.push_problem.Goals as goal

pub returns : goal.returns
returns c =
    IfOk-weaker c.add_problem.result _ _
    (λ done more. problem_here c.args.cases.now c.args.number (string_bytes c.args.words) c.index-cases-number.result c.add_problem.new.case c.if-number-cases.false more) c.add_problem.ensures
