use Rattle.tk_panel.specs.Shared.{panel_of}
use Rattle.tk_commands.specs.Course.{look as panel_look}
use Rattle.tk_app.proofs.Shows.{panel_shown, seen_at, view_left}
use Rattle.tk_app.proofs.jobs.AppTablesJobs.look.Goals as goal

pub returns-in_err-looked-clause-left : goal.returns-in_err-looked-clause-left
returns-in_err-looked-clause-left g c = view_left c.look.ensures.others

pub returns-clause-left : goal.returns-clause-left
returns-clause-left g c = view_left c.look.ensures.others

pub returns-clause-ok : goal.returns-clause-ok
returns-clause-ok g c = let view = c.args.self.now in panel_shown (seen_at g.M.AliasMeaning.answer view.aliases.now view.slot view.tables.now) (panel_look (panel_of view.slot view.tables.now) c.args.scopes.now c.args.job) c.look.ensures.others.clock c.in_ok-looked.ensures.own
