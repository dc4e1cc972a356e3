use Rattle.std.proofs.Common.{◌≡◌, ap, sym, subst, ◌∙◌, arith}
use Rattle.tcl_interp.specs.Finish.{Tests}
use Rattle.tcl_interp.specs.Moves.{moved, standing}
use Rattle.tcl_interp.specs.Rests.{moved_of, standing_of, waits_of}
use Rattle.tcl_interp.specs.Steps.{TakesSteps}
use Rattle.tcl_interp.specs.Turns.{halted}
use Rattle.tcl_interp.proofs.OnwardLemmas.{steps_lead, test_leads_on}
use Rattle.tcl_interp.proofs.onward.run_turns.Goals as goal

pub returns-then-steps-gt0-clause-ok : goal.returns-then-steps-gt0-clause-ok
returns-then-steps-gt0-clause-ok g c = λ shows.
    let outside = g.T.Tasks.outside in
    let room = c.args.room in
    let looping = c.args.looping in
    let waits = waits_of c.args.frames.now.items in
    let turned = c.in_ok-turned.turned in
    let store = c.go_round.new.scopes in
    let first = standing (moved (Tests room looping) waits) c.args.scopes.now c.args.context.now in
    let stopped = c.in_ok-stopped.stopped in
    let second = standing_of stopped c.stand_at.new.frames.items store c.stand_at.new.context in
    let third = standing_of c.in_ok-now.now c.onward.new.frames.items c.onward.new.scopes c.onward.new.context in
    let at : standing (halted room looping waits turned.at) store c.go_round.new.context ≡ second =
    ap (λ m. standing m store c.go_round.new.context) (sym c.in_ok-stopped.ensures.now) ∙ ap (λ k. standing (moved_of stopped c.stand_at.new.frames.items) store k) (sym c.stand_at.ensures.context) in
    let went : TakesSteps outside turned.steps first shows (standing (halted room looping waits turned.at) store c.go_round.new.context) shows = rw c.get.ensures at (c.in_ok-turned.ensures.ok waits shows) in
    steps_lead outside turned.steps first second third shows shows
    (subst (λ s. TakesSteps outside turned.steps first shows s shows) at went)
    c.in_ok-now.ensures

pub returns-clause-ok : goal.returns-clause-ok
returns-clause-ok g c = λ shows.
    let outside = g.T.Tasks.outside in
    let room = c.args.room in
    let looping = c.args.looping in
    let waits = waits_of c.args.frames.now.items in
    let none : c.in_ok-turned.turned.steps ≡ 0 = omega arith in
    let store : c.go_round.new.scopes ≡ c.args.scopes.now = c.in_ok-turned.ensures.untaken none in
    let second = standing_of c.in_ok-tested.tested c.test.new.frames.items c.test.new.scopes c.go_round.new.context in
    let third = standing_of c.in_ok-now-2.now c.onward-2.new.frames.items c.onward-2.new.scopes c.onward-2.new.context in
    let went : TakesSteps outside 1 (standing (moved (Tests room looping) waits) c.go_round.new.scopes c.go_round.new.context) shows third shows =
    test_leads_on outside room looping waits shows c.go_round.new.scopes c.go_round.new.context second third c.in_ok-tested.ensures c.in_ok-now-2.ensures in
    subst (λ own. TakesSteps outside 1 (standing (moved (Tests room looping) waits) own c.args.context.now) shows third shows) store
    (subst (λ own. TakesSteps outside 1 (standing (moved (Tests room looping) waits) c.go_round.new.scopes own) shows third shows) c.go_round.ensures.context went)
