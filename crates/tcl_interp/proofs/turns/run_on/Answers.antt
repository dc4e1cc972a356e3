use Rattle.std.proofs.Common.{◌≡◌, ap, sym, subst, ◌∙◌, arith}
use Rattle.tcl_interp.specs.Finish.{GoesOn}
use Rattle.tcl_interp.specs.Moves.{moved, standing}
use Rattle.tcl_interp.specs.Rests.{commands_in, left_in, moved_of, standing_of, waits_of}
use Rattle.tcl_interp.specs.Steps.{TakesSteps}
use Rattle.tcl_interp.specs.Whole.{came_to}
use Rattle.tcl_interp.proofs.SimpleLemmas.{on_err}
use Rattle.tcl_interp.proofs.turns.run_on.Goals as goal

-- run_whole's clause at the frames that wait, then come_on's `now` and `context`
pub returns-clause-ok : goal.returns-clause-ok
returns-clause-ok g c = λ shows.
    let outside = g.T.Tasks.outside in
    let from = c.args.from in
    let waits = waits_of c.args.frames.now.items in
    let went = c.in_ok-came.field-0 in
    let store = c.run_whole.new.scopes in
    let context = c.args.context.now in
    let now = c.in_ok-now.now in
    let first = standing (moved (GoesOn from.room (left_in from) c.args.previous) waits) c.args.scopes.now context in
    let at : standing (came_to from.room (commands_in from.script) went.came waits) store context ≡ standing_of now c.come_on.new.frames.items store c.come_on.new.context =
    ap (λ m. standing m store context) (sym c.in_ok-now.ensures.now) ∙ ap (λ k. standing (moved_of now c.come_on.new.frames.items) store k) (sym c.come_on.ensures.context) in
    subst (λ s. TakesSteps outside went.steps first shows s shows) at (c.in_ok-came.ensures.ok waits shows)

pub returns-in_err-now-clause-uncounted : goal.returns-in_err-now-clause-uncounted
returns-in_err-now-clause-uncounted g c =
    on_err c.from_residual-in_err-now.result (c.run_whole.new.left ≡ c.args.left.now → c.run_whole.new.scopes ≡ c.args.scopes.now) (λ same.
    c.in_ok-came.ensures.untaken (omega (arith, same, c.in_ok-came.ensures.counted)))
