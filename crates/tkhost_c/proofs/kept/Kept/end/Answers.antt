use Rattle.std.proofs.Common.{◌≡◌, ◌∙◌, sym}
use Rattle.tk_alias.specs.declared.service.Service.{Service}
use Rattle.tk_host.specs.Held.{End, Hosted, after_end}
use Rattle.tk_host.specs.Refusals.{RefusesMoment, moment_faults}
use Rattle.tkhost_c.specs.Calls.{answer_by}
use Rattle.tkhost_c.proofs.Runs.{begun, runs_begun}
use Rattle.tkhost_c.proofs.kept.Kept.end.Goals as goal

pub returns : goal.returns
returns c =
    rw (← c.self.view_is, c.answered_as.ensures)
    (runs_begun (RefusesMoment c.self.inside.host.held c.args.moment) moment_faults (End c.args.moment) (λ (before after : Hosted Service). after ≡ after_end answer_by c.args.moment before)
    (record { host = c.self.inside.host; apps = c.self.inside.apps.items; waiting = c.self.inside.waiting }) c.end.new.self c.end.result
    (begun c.self.inside.host.held.phase (sym c.if-not-self.false ∙ c.self.invariant))
    c.end.ensures.unless c.end.ensures.refused c.end.ensures.left c.end.ensures.ended c.end.ensures.history c.end.ensures.turns)
