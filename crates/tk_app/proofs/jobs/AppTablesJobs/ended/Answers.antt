use Rattle.tk_panel.specs.Shared.{panel_of}
use Rattle.tk_commands.specs.Course.{ended as panel_ended}
use Rattle.tk_app.proofs.Shows.{panel_shown, seen_at, view_left}
use Rattle.tk_app.proofs.jobs.AppTablesJobs.ended.Goals as goal

pub returns-in_err-next-clause-left : goal.returns-in_err-next-clause-left
returns-in_err-next-clause-left g c = view_left c.ended.ensures.others

pub returns-clause-left : goal.returns-clause-left
returns-clause-left g c = view_left c.ended.ensures.others

pub returns-clause-ok : goal.returns-clause-ok
returns-clause-ok g c = let view = c.args.self.now in panel_shown (seen_at g.M.AliasMeaning.answer view.aliases.now view.slot view.tables.now) (panel_ended c.args.code c.args.text (panel_of view.slot view.tables.now) c.args.job) c.ended.ensures.others.clock c.in_ok-next.ensures.own
