use Rattle.tk_panel.specs.Shared.{panel_of}
use Rattle.tk_commands.specs.Course.{job_started as panel_started}
use Rattle.tk_app.proofs.Shows.{panel_shown, seen_at, view_left}
use Rattle.tk_app.proofs.jobs.AppTablesJobs.start.Goals as goal

pub returns-in_err-started-clause-left : goal.returns-in_err-started-clause-left
returns-in_err-started-clause-left g c = view_left c.start.ensures.others

pub returns-clause-left : goal.returns-clause-left
returns-clause-left g c = view_left c.start.ensures.others

pub returns-clause-ok : goal.returns-clause-ok
returns-clause-ok g c = let view = c.args.self.now in panel_shown (seen_at g.M.AliasMeaning.answer view.aliases.now view.slot view.tables.now) (panel_started (panel_of view.slot view.tables.now) c.args._scopes.now c.args.job) c.start.ensures.others.clock (c.in_ok-started.ensures.own c.args._scopes.now)
