use Rattle.std.proofs.Common.{◌∙◌, sym}
use Rattle.tk_host.specs.Refusals.{RefusesLine, line_faults}
use Rattle.tkhost_c.proofs.Runs.{begun, lines_begun}
use Rattle.tkhost_c.proofs.kept.Kept.line.Goals as goal

pub returns : goal.returns
returns c =
    rw (← c.self.view_is, c.answered_as.ensures)
    (lines_begun (RefusesLine c.self.inside.host.held c.args.moment c.args.line) line_faults c.args.moment c.args.line
    (record { host = c.self.inside.host; apps = c.self.inside.apps.items; waiting = c.self.inside.waiting }) c.line.new.self c.line.result
    (begun c.self.inside.host.held.phase (sym c.if-not-self.false ∙ c.self.invariant))
    c.line.ensures.unless c.line.ensures.refused c.line.ensures.left c.line.ensures.lined c.line.ensures.history c.line.ensures.turns)
