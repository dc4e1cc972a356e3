use Rattle.tk_app.proofs.Shows.{view_left}
use Rattle.tk_app.proofs.jobs.AppTablesTasks.parsed.Goals as goal

pub returns-in_err-script-clause-left : goal.returns-in_err-script-clause-left
returns-in_err-script-clause-left g c = view_left (c.parsed.ensures.others c.args.self.now.slot)

pub returns-clause-left : goal.returns-clause-left
returns-clause-left g c = view_left (c.parsed.ensures.others c.args.self.now.slot)
