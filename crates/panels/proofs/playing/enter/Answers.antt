use Rattle.std.proofs.Common.{inr, sym, subst}
use Rattle.std.proofs.lemmas.Result.{IfErr-weaker, on_ok_weaker}
use Rattle.std.specs.Prelude.{OnOk}
use Rattle.tk_route.specs.Refusals.{IsFirst}
use Rattle.tk_host.specs.Refusals.{RefusesMoment, moment_faults}
use Rattle.panels.specs.declared.bench.Act.{Act}
use Rattle.panels.specs.declared.bench.Act.TheVariants.{Do}
use Rattle.panels.specs.Course.{IsAt, acted, advanced}
use Rattle.panels.specs.Refusals.{RefusesAct, RefusesEntry, TakesAct}
use Rattle.panels.proofs.Taken.{of_entry-map, of_fault, refuses_moment, takes_moment}
use Rattle.panels.proofs.Ways.{at_advanced}
use Rattle.panels.proofs.playing.enter.Goals as goal

pub returns-in-Do-clause-course : goal.returns-in-Do-clause-course
returns-in-Do-clause-course g c way is =
    let answer = g.M.AliasMeaning.answer in
    let moment = c.args.entry.now.moment in
    let reached = at_advanced answer way moment c.args.host.now.held c.advance_to.new.self.held c.args.course.now is c.in_default.ensures.history in
    subst (λ (act : Act). OnOk c.perform.result (IsAt answer (acted answer c.args.number moment act (advanced moment way)) c.perform.new.host.held c.perform.new.course)) (sym c.in-Do.is)
    (c.perform.ensures.course (advanced moment way) reached)

pub returns-in-Do-clause-taken : goal.returns-in-Do-clause-taken
returns-in-Do-clause-taken g c way is =
    let answer = g.M.AliasMeaning.answer in
    let moment = c.args.entry.now.moment in
    let reached = at_advanced answer way moment c.args.host.now.held c.advance_to.new.self.held c.args.course.now is c.in_default.ensures.history in
    let none = takes_moment answer c.args.entry.now way c.args.host.now.held is.held_is c.in_default.ensures.unless in
    on_ok_weaker c.perform.result (λ takes. (none, subst (λ (act : Act). TakesAct answer moment act (advanced moment way)) (sym c.in-Do.is) takes))
    (c.perform.ensures.taken (advanced moment way) reached)

pub returns-in-Do-clause-refused : goal.returns-in-Do-clause-refused
returns-in-Do-clause-refused g c way is =
    let answer = g.M.AliasMeaning.answer in
    let moment = c.args.entry.now.moment in
    let reached = at_advanced answer way moment c.args.host.now.held c.advance_to.new.self.held c.args.course.now is c.in_default.ensures.history in
    let none = takes_moment answer c.args.entry.now way c.args.host.now.held is.held_is c.in_default.ensures.unless in
    IfErr-weaker c.perform.result _ _
    (λ found of. of_entry-map (RefusesAct answer moment (Do c.in-Do.gesture) (advanced moment way)) (RefusesEntry answer c.args.entry.now way) c.args.number found
    (λ fault refuses. inr (none, subst (λ (act : Act). RefusesAct answer moment act (advanced moment way) fault) (sym c.in-Do.is) refuses)) of)
    (c.perform.ensures.refused (advanced moment way) reached)

pub returns-in-Err-clause-refused : goal.returns-in-Err-clause-refused
returns-in-Err-clause-refused g c way is =
    let held = c.args.host.now.held in
    let moment = c.args.entry.now.moment in
    rw c.refused.ensures
    (of_entry-map (IsFirst (RefusesMoment held moment) moment_faults) (RefusesEntry g.M.AliasMeaning.answer c.args.entry.now way) c.args.number _
    (λ fault first. refuses_moment g.M.AliasMeaning.answer c.args.entry.now way held is.held_is fault first)
    (of_fault (RefusesMoment held moment) moment_faults c.args.number _ c.in-Err.fault c.in-Err.ensures.refused))
