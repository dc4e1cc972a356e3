use Rattle.std.proofs.Common.{inl, inr}
use Rattle.tk_panel.specs.Shared.{panel_of}
use Rattle.tk_panel.proofs.Others.{others_same}
use Rattle.tk_app.proofs.Events.{deliver_is}
use Rattle.tk_app.proofs.turn.deliver_running.Goals as goal

pub grant-requires : goal.grant-requires
grant-requires g c = record { rests = elim c.requires.may [ inl rests ↦ inl rests | inr fresh ↦ inr fresh.2 ]; running = c.requires.runs }

pub returns-clause-own : goal.returns-clause-own
returns-clause-own g c =
    deliver_is c.args.event (panel_of c.args.slot c.args.tables.now) (panel_of c.args.slot c.deliver.new.tables) c.args.runner.now c.grant.new.self c.requires.runs c.requires.moment c.in_ok-deliver.ensures.own c.in_ok-grant.ensures.ok

pub returns-clause-others : goal.returns-clause-others
returns-clause-others g c = others_same c.args.slot c.args.tables.now c.deliver.new.tables c.deliver.ensures.others

pub returns-in_err-deliver-clause-others : goal.returns-in_err-deliver-clause-others
returns-in_err-deliver-clause-others g c = others_same c.args.slot c.args.tables.now c.deliver.new.tables c.deliver.ensures.others
