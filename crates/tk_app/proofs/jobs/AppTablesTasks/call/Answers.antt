use Rattle.tk_app.proofs.Shows.{view_left}
use Rattle.tk_app.proofs.jobs.AppTablesTasks.call.Goals as goal

pub returns-in_err-act-clause-left : goal.returns-in_err-act-clause-left
returns-in_err-act-clause-left g c = view_left c.call.ensures.others

pub returns-clause-left : goal.returns-clause-left
returns-clause-left g c = view_left c.call.ensures.others
