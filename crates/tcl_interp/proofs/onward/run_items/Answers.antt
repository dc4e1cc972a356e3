use Rattle.std.proofs.Common.{◌≡◌, ap, sym, subst, ◌∙◌}
use Rattle.tcl_control.specs.declared.context.Context.{Context}
use Rattle.tcl_control.specs.declared.loops.Loop.{Loop}
use Rattle.tcl_interp.specs.Finish.{Tests}
use Rattle.tcl_interp.specs.Items.{halted_over, looping_over}
use Rattle.tcl_interp.specs.Moves.{moved, standing}
use Rattle.tcl_interp.specs.Rests.{moved_of, standing_of, waits_of}
use Rattle.tcl_interp.specs.Steps.{TakesSteps}
use Rattle.tcl_interp.proofs.OnwardLemmas.{steps_lead}
use Rattle.tcl_interp.proofs.SimpleLemmas.{stays}
use Rattle.tcl_interp.proofs.onward.run_items.Goals as goal

pub returns-in-Other-clause-ok : goal.returns-in-Other-clause-ok
returns-in-Other-clause-ok g c = λ shows.
    let outside = g.T.Tasks.outside in
    let waits = waits_of c.args.frames.now.items in
    let store = c.args.scopes.now in
    let context : Context = record { levels = c.args.context.now.levels; commands = c.lists_of.new.table } in
    let kept : context ≡ c.args.context.now = ap (λ table. record c.args.context.now { commands = table }) c.lists_of.ensures.table in
    let same : c.in-Other.looping ≡ c.args.looping = rw c.in-Other.is at c.in_ok-over.ensures.same in
    let first = standing (moved (Tests c.args.room c.args.looping) waits) store c.args.context.now in
    subst (λ k. TakesSteps outside 0 first shows (standing (moved (Tests c.args.room c.in-Other.looping) waits) store k) shows) (sym kept)
    (subst (λ l. TakesSteps outside 0 first shows (standing (moved (Tests c.args.room l) waits) store c.args.context.now) shows) (sym same) (stays outside first shows))

pub returns-in_ok-now-in-Lists-clause-ok : goal.returns-in_ok-now-in-Lists-clause-ok
returns-in_ok-now-in-Lists-clause-ok g c = λ shows.
    let outside = g.T.Tasks.outside in
    let room = c.args.room in
    let waits = waits_of c.args.frames.now.items in
    let lists = c.in-Lists in
    let looping = looping_over lists.body lists.groups in
    let turned = c.in_ok-turned-in-Lists.turned in
    let store = c.items_turns.new.scopes in
    let context : Context = record { levels = c.args.context.now.levels; commands = c.lists_of.new.table } in
    let kept : context ≡ c.args.context.now = ap (λ table. record c.args.context.now { commands = table }) c.lists_of.ensures.table in
    let same : looping ≡ c.args.looping = rw lists.is at c.in_ok-over.ensures.same in
    let stopped = c.in_ok-stopped-in-Lists.stopped in
    let first = standing (moved (Tests room looping) waits) c.args.scopes.now context in
    let second = standing_of stopped c.stand_over.new.frames.items store c.stand_over.new.context in
    let third = standing_of c.in_ok-now-in-Lists.now c.onward.new.frames.items c.onward.new.scopes c.onward.new.context in
    let at : standing (halted_over room lists.body waits turned.at) store context ≡ second =
    ap (λ m. standing m store context) (sym c.in_ok-stopped-in-Lists.ensures.now) ∙ ap (λ k. standing (moved_of stopped c.stand_over.new.frames.items) store k) (sym c.stand_over.ensures.context) in
    let went : TakesSteps outside turned.steps first shows third shows =
    steps_lead outside turned.steps first second third shows shows
    (subst (λ s. TakesSteps outside turned.steps first shows s shows) at (c.in_ok-turned-in-Lists.ensures.ok waits shows)) c.in_ok-now-in-Lists.ensures in
    subst (λ (l : Loop). TakesSteps outside turned.steps (standing (moved (Tests room l) waits) c.args.scopes.now c.args.context.now) shows third shows) same
    (subst (λ k. TakesSteps outside turned.steps (standing (moved (Tests room looping) waits) c.args.scopes.now k) shows third shows) kept went)
