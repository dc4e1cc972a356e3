use Rattle.std.proofs.Common.{sym, ap, ◌∙◌, subst, Ok}
use Rattle.tk_panel.specs.Shared.{panel_of}
use Rattle.tk_app.specs.declared.state.AppEnd.{AppEnd}
use Rattle.tk_app.specs.declared.state.AppState.{AppState}
use Rattle.tk_app.specs.Turns.{TakesTurn, end_as, part_of, program_with}
use Rattle.tk_app.proofs.Slices.{more_of, ran, settled_of, stopped_of, turn_goes_on, turn_settles, turn_stops}
use Rattle.tk_app.proofs.runner.Runner.go_on.Goals as goal

pub returns-in-Settled-clause-turn : goal.returns-in-Settled-clause-turn
returns-in-Settled-clause-turn g c =
    let i = c.self.inside in
    let program = program_with i.name i.aliases i.budget i.scopes i.interp i.state in
    let panel = panel_of c.args.slot c.args.tables.now in
    let panel' = panel_of c.args.slot c.run.new.tables in
    let end = c.in_ok-end.ensures in
    let is = settled_of c.in_ok-end.end (sym c.end_of-ended.ensures ∙ c.in-Settled.is) in
    let settles = turn_settles g.M.AliasMeaning.answer program panel panel' i.interp c.run.new.interp i.scopes c.run.new.scopes i.state c.args.self.now c.self.view_is c.requires.running c.requires.going end.clock c.args.steps is.0 is.1 (rw is.2 at end.reached) (rw is.2 at end.rest) end.most in
    let Turn : AppEnd → AppState → Type 0 = λ e s. TakesTurn g.M.AliasMeaning.answer panel.moment c.args.steps e (part_of panel c.args.self.now) (part_of panel' (ran g.M.AliasMeaning.answer program c.run.new.interp c.run.new.scopes s)) in
    subst (λ e. Turn e c.state_after-state.result) (sym c.end_as.ensures)
    (subst (λ s. Turn (end_as s) s) (sym c.state_after-state.ensures) settles)

pub returns-in-More-clause-turn : goal.returns-in-More-clause-turn
returns-in-More-clause-turn g c =
    let i = c.self.inside in
    let end = c.in_ok-end.ensures in
    let is = more_of c.in_ok-end.end (sym c.end_of-ended.ensures ∙ c.in-More.is) in
    turn_goes_on g.M.AliasMeaning.answer (program_with i.name i.aliases i.budget i.scopes i.interp i.state) (panel_of c.args.slot c.args.tables.now) (panel_of c.args.slot c.run.new.tables)
    i.interp c.run.new.interp i.scopes c.run.new.scopes i.state c.args.self.now c.self.view_is c.requires.running c.requires.going end.clock c.args.steps (rw is at end.reached) (rw is at end.rest) (end.more (ap Ok is))

pub returns-in-Stopped-clause-turn : goal.returns-in-Stopped-clause-turn
returns-in-Stopped-clause-turn g c =
    let i = c.self.inside in
    let end = c.in_ok-end.ensures in
    let is = stopped_of c.in_ok-end.end (sym c.end_of-ended.ensures ∙ c.in-Stopped.is) in
    turn_stops g.M.AliasMeaning.answer (program_with i.name i.aliases i.budget i.scopes i.interp i.state) (panel_of c.args.slot c.args.tables.now) (panel_of c.args.slot c.run.new.tables)
    i.interp c.run.new.interp i.scopes c.run.new.scopes i.state c.args.self.now c.self.view_is c.requires.running c.requires.going end.clock c.args.steps (rw is at end.reached) (end.exhausted (ap Ok is)) end.most
