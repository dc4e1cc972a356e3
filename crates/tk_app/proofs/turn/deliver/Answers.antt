use Rattle.std.proofs.Common.{inl, refl, ◌∙◌}
use Rattle.tk_panel.specs.Shared.{panel_of}
use Rattle.tk_app.specs.Turns.{part_of}
use Rattle.tk_app.proofs.Events.{deliver_nothing}
use Rattle.tk_app.proofs.turn.deliver.Goals as goal

pub returns-in_default : goal.returns-in_default
returns-in_default g c = record {
  own = deliver_nothing c.args.event (part_of (panel_of c.args.slot c.args.tables.now) c.args.runner.now) (λ runs. c.in_default.not-Running (c.state.ensures.state ∙ runs));
  budget = refl;
  steps = inl refl;
  clock = refl;
  others = refl;
}
