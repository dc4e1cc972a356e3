use Rattle.std.proofs.Common.{◌≡◌, ℕ, List, Result, IfOk, sym, subst, ◌∙◌, arith}
use Rattle.std.proofs.lemmas.Result.{IfOk-weaker, on_err_weaker}
use Rattle.tcl_vars.specs.Store.{Store}
use Rattle.tcl_control.specs.declared.context.Context.{Context}
use Rattle.tcl_interp.specs.declared.machine.Frame.{Frame}
use Rattle.tcl_interp.specs.declared.simple.Gone.{Gone}
use Rattle.tcl_interp.specs.Outside.{Outside}
use Rattle.tcl_interp.specs.Finish.{GoesOn}
use Rattle.tcl_interp.specs.Moves.{Standing, moved, standing}
use Rattle.tcl_interp.specs.Rests.{left_in, standing_of, waits_of}
use Rattle.tcl_interp.specs.Steps.{TakesSteps}
use Rattle.tcl_interp.proofs.SimpleLemmas.{steps_behind}
use Rattle.tcl_interp.proofs.onward.run_script.Goals as goal

-- the steps of a call behind none
gone_behind : {S K E : Type 0} (outside : Outside S K) (m : ℕ) (first second : Standing K) (start after : S) (store : Store) (context : Context) (frames : List (Frame K)) (called : Result (Gone K) E)
    → m ≡ 0 → TakesSteps outside m first start second start
    → IfOk called (λ gone. TakesSteps outside gone.steps second start (standing_of gone.now frames store context) after)
    → IfOk called (λ gone. TakesSteps outside gone.steps first start (standing_of gone.now frames store context) after)
gone_behind outside m first second start after store context frames called none before =
    IfOk-weaker called _ _ (λ gone went. steps_behind outside m gone.steps first second (standing_of gone.now frames store context) start after none before went)

pub returns-in-GoesOn-clause-ok : goal.returns-in-GoesOn-clause-ok
returns-in-GoesOn-clause-ok g c =
    let outside = g.T.Tasks.outside in
    let shows = g.T.Tasks.shows in
    let from = c.args.from in
    let gone = c.in_ok-gone.gone in
    let place = c.in-GoesOn.place in
    let store = c.run_known.new.scopes in
    let context = c.run_known.new.context in
    let frames = c.run_known.new.frames.items in
    let start = shows c.args.tasks.now in
    let first = standing (moved (GoesOn from.room (left_in from) c.args.previous) (waits_of c.args.frames.now.items)) c.args.scopes.now c.args.context.now in
    let second = standing (moved (GoesOn place.room (left_in place) c.in-GoesOn.result) (waits_of frames)) store context in
    let none : gone.steps ≡ 0 = omega arith in
    let before : TakesSteps outside gone.steps first start second start =
    subst (λ now. TakesSteps outside gone.steps first start (standing_of now frames store context) start) c.in-GoesOn.is (c.in_ok-gone.ensures.ok start) in
    let went = rw c.in-GoesOn.is at c.run_one.ensures.ok in
    gone_behind outside gone.steps first second start (shows c.run_one.new.tasks) c.run_one.new.scopes c.run_one.new.context c.run_one.new.frames.items c.run_one.result none before went

pub returns-in-GoesOn-clause-uncounted : goal.returns-in-GoesOn-clause-uncounted
returns-in-GoesOn-clause-uncounted g c =
    let gone = c.in_ok-gone.gone in
    let none : gone.steps ≡ 0 = omega arith in
    on_err_weaker c.run_one.result (λ own same.
    let counted : c.run_one.new.left ≡ c.run_known.new.left = omega (arith, same, none, c.in_ok-gone.ensures.counted) in
    let there = own counted in
    (there.0 ∙ c.in_ok-gone.ensures.untaken none, there.1 ∙ c.run_known.ensures.context, there.2)) c.run_one.ensures.uncounted

pub returns-in_default-now-clause-ok : goal.returns-in_default-now-clause-ok
returns-in_default-now-clause-ok g c =
    let outside = g.T.Tasks.outside in
    let from = c.args.from in
    let gone = c.in_ok-gone.gone in
    let start = g.T.Tasks.shows c.args.tasks.now in
    let first = standing (moved (GoesOn from.room (left_in from) c.args.previous) (waits_of c.args.frames.now.items)) c.args.scopes.now c.args.context.now in
    let second = standing_of gone.now c.run_known.new.frames.items c.run_known.new.scopes c.run_known.new.context in
    let none : gone.steps ≡ 0 = omega arith in
    subst (λ steps. TakesSteps outside steps first start second start) none (c.in_ok-gone.ensures.ok start)
