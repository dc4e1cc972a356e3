use Rattle.std.proofs.Common.{false, inr}
use Rattle.std.proofs.lemmas.Bool.{false≢true}
use Rattle.std.proofs.lemmas.Result.{IfOk-weaker}
use Rattle.std.proofs.lemmas.Str.Pattern.{contains_text}
use Rattle.panels_report.proofs.linting.replaced.Goals as goal

pub returns-in-None : goal.returns-in-None
returns-in-None c =
    IfOk-weaker c.from_str.result _ _
    (λ new is. inr (λ before behind same. absurd (false≢true ((contains_text false c.args.part.now c.args.own.now c.in-None.ensures.cases).1 (before, behind, same))), is)) c.from_str.ensures.ok
