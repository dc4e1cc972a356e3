use Rattle.std.proofs.Common.{◌≡◌, ◌∙◌, arith}
use Rattle.tcl_interp.specs.Finish.{GoesOn}
use Rattle.tcl_interp.specs.Moves.{moved, standing}
use Rattle.tcl_interp.specs.Rests.{left_in, standing_of, waits_of}
use Rattle.tcl_interp.proofs.SimpleLemmas.{on_err, steps_on}
use Rattle.tcl_interp.proofs.onward.run_commands.Goals as goal

pub commands-preserved : goal.commands-preserved
commands-preserved g c =
    let outside = g.T.Tasks.outside in
    let shows = g.T.Tasks.shows in
    let taken = c.in_ok-gone.gone.steps in
    let first = standing (moved (GoesOn c.args.from.room (left_in c.args.from) c.args.previous) (waits_of c.args.frames.now.items)) c.args.scopes.now c.args.context.now in
    let second = standing_of c.commands.doing c.commands.frames.items c.commands.scopes c.commands.context in
    let third = standing_of c.in_ok-gone.gone.now c.run_next.new.frames.items c.run_next.new.scopes c.run_next.new.context in
    record {
      same = steps_on outside c.commands.steps taken first second third (shows c.args.tasks.now) (shows c.commands.tasks) (shows c.run_next.new.tasks) c.commands.invariant.same c.in_ok-gone.ensures.ok;
      most = omega (arith, c.in_ok-gone.ensures.most, c.commands.invariant.most);
      counted = omega (arith, c.in_ok-gone.ensures.counted, c.commands.invariant.counted);
      untaken = λ none. absurd (omega (arith, none, c.if-taken-eq0.false));
      left = c.in_ok-gone.ensures.left ∙ c.commands.invariant.left;
    }

pub returns-then-taken-eq0-clause-ok : goal.returns-then-taken-eq0-clause-ok
returns-then-taken-eq0-clause-ok g c =
    let outside = g.T.Tasks.outside in
    let shows = g.T.Tasks.shows in
    let first = standing (moved (GoesOn c.args.from.room (left_in c.args.from) c.args.previous) (waits_of c.args.frames.now.items)) c.args.scopes.now c.args.context.now in
    let second = standing_of c.commands.doing c.commands.frames.items c.commands.scopes c.commands.context in
    let third = standing_of c.in_ok-gone.gone.now c.run_next.new.frames.items c.run_next.new.scopes c.run_next.new.context in
    steps_on outside c.commands.steps c.in_ok-gone.gone.steps first second third (shows c.args.tasks.now) (shows c.commands.tasks) (shows c.run_next.new.tasks) c.commands.invariant.same c.in_ok-gone.ensures.ok

pub returns-in_err-gone-clause-uncounted : goal.returns-in_err-gone-clause-uncounted
returns-in_err-gone-clause-uncounted g c =
    let shows = g.T.Tasks.shows in
    on_err c.from_residual.result (c.run_next.new.left ≡ c.args.left.now → (c.run_next.new.scopes ≡ c.args.scopes.now) × (c.run_next.new.context ≡ c.args.context.now) × (shows c.run_next.new.tasks ≡ shows c.args.tasks.now)) (λ same.
    let none : c.commands.steps ≡ 0 = omega (arith, same, c.in_err-gone.ensures.taken, c.commands.invariant.counted) in
    let counted : c.run_next.new.left ≡ c.commands.left = omega (arith, same, none, c.commands.invariant.counted) in
    let before = c.commands.invariant.untaken none in
    let after = c.in_err-gone.ensures.uncounted counted in
    (after.0 ∙ before.0, after.1 ∙ before.1, after.2 ∙ before.2))
