use Rattle.tk_dispatch.specs.Percent.{element}
use Rattle.tk_dispatch.proofs.Runs.{longer}
use Rattle.tk_dispatch.proofs.push.push_element.Goals as goal

pub returns-in-Err-clause-too_long : goal.returns-in-Err-clause-too_long
returns-in-Err-clause-too_long c = λ differs. longer c.args.text.now (element c.args.item.now) (c.in-Err.ensures.too_long differs)
