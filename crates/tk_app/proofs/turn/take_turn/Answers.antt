use Rattle.std.proofs.Common.{refl, ◌∙◌, arith}
use Rattle.tk_panel.specs.Shared.{panel_of}
use Rattle.tk_app.specs.Turns.{Program, part_of}
use Rattle.tk_app.proofs.Slices.{stopped_turn}
use Rattle.tk_app.proofs.Views.{none_told}
use Rattle.tk_app.proofs.turn.take_turn.Goals as goal

pub returns-in_default : goal.returns-in_default
returns-in_default g c =
    let p : Program _ = c.args.runner.now in
    record {
      turn = stopped_turn g.M.AliasMeaning.answer c.args.tables.now.clock c.args.steps (part_of (panel_of c.args.slot c.args.tables.now) p) (λ runs. c.in_default.not-Running (c.state.ensures.state ∙ runs))
          (c.state.ensures.stops c.in_default.not-Running);
      told = none_told c.args.turns.now.items c.args.slot p.steps;
      budget = refl;
      fewer = omega arith;
      most = omega arith;
      clock = refl;
      others = refl;
    }
