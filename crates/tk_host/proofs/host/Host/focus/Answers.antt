use Rattle.std.proofs.Common.{sym, ap, ◌∙◌}
use Rattle.tk_app.specs.Inspection.{focus_of}
use Rattle.tk_host.specs.Held.{Hosted}
use Rattle.tk_host.proofs.Looks.{lost_by_history}
use Rattle.tk_host.proofs.host.Host.focus.Goals as goal

pub returns-in-Lost-clause-history : goal.returns-in-Lost-clause-history
returns-in-Lost-clause-history g c = λ calls held.
    lost_by_history g.M.AliasMeaning.answer focus_of c.args.slot calls c.args.self.now.held held (sym (ap (λ (h : Hosted _). h.held.phase) c.self.view_is) ∙ c.in-Lost.is)
