use Rattle.std.proofs.Common.{sym, ap, ◌∙◌}
use Rattle.tk_app.specs.Turns.{Program}
use Rattle.tk_app.proofs.Slices.{work_stops}
use Rattle.tk_app.proofs.runner.Runner.state.Goals as goal

pub returns-clause-stops : goal.returns-clause-stops
returns-clause-stops g c = λ stopped. sym (ap (λ (p : Program _). p.work) c.self.view_is) ∙ work_stops c.self.inside.state _ stopped
