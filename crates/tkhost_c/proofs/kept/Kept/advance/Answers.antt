use Rattle.std.proofs.Common.{◌≡◌, ◌∙◌, sym}
use Rattle.tk_alias.specs.declared.service.Service.{Service}
use Rattle.tk_host.specs.Held.{AdvanceTo, Hosted, after_advance}
use Rattle.tk_host.specs.Refusals.{RefusesMoment, moment_faults}
use Rattle.tkhost_c.specs.Calls.{answer_by}
use Rattle.tkhost_c.proofs.Runs.{begun, runs_begun}
use Rattle.tkhost_c.proofs.kept.Kept.advance.Goals as goal

pub returns : goal.returns
returns c =
    rw (← c.self.view_is, c.answered_as.ensures)
    (runs_begun (RefusesMoment c.self.inside.host.held c.args.moment) moment_faults (AdvanceTo c.args.moment) (λ (before after : Hosted Service). after ≡ after_advance answer_by c.args.moment before)
    (record { host = c.self.inside.host; apps = c.self.inside.apps.items; waiting = c.self.inside.waiting }) c.advance_to.new.self c.advance_to.result
    (begun c.self.inside.host.held.phase (sym c.if-not-self.false ∙ c.self.invariant))
    c.advance_to.ensures.unless c.advance_to.ensures.refused c.advance_to.ensures.left c.advance_to.ensures.advanced c.advance_to.ensures.history c.advance_to.ensures.turns)
