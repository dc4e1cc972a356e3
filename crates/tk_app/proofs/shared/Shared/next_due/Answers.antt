use Rattle.std.proofs.Common.{◌∙◌, ap, arith}
use Rattle.tk_app.specs.Application.{next_due, next_due_as}
use Rattle.tk_panel.specs.Shared.{panel_of}
use Rattle.tk_app.specs.Part.{Part}
use Rattle.tk_app.proofs.Slots.{in_range, of_slot}
use Rattle.tk_app.proofs.shared.Shared.next_due.Goals as goal

pub index-runner-requires : goal.index-runner-requires
index-runner-requires g c = let lt = in_range _ _ c.self.view_is c.requires in omega (arith, lt)

pub returns : goal.returns
returns g c = of_slot _ _ c.self.view_is (λ (p : Part _). next_due p.application) c.requires c.index-runner.ensures (c.next_due.ensures ∙ ap (λ s. next_due_as s (panel_of c.args.slot c.self.inside.tables).timers) c.state.ensures.state)
