use Rattle.std.proofs.Common.{refl, sym, subst}
use Rattle.std.proofs.lemmas.Result.{IfOk-weaker, on_err_weaker}
use Rattle.tcl_interp.specs.Finish.{GoesOn}
use Rattle.tcl_interp.specs.Moves.{moved, standing}
use Rattle.tcl_interp.specs.Rests.{left_in, standing_of, waits_of}
use Rattle.tcl_interp.specs.Steps.{TakesSteps}
use Rattle.tcl_interp.proofs.OnwardLemmas.{steps_lead}
use Rattle.tcl_interp.proofs.onward.run_next.Goals as goal

pub returns-in_ok-now-in-GoesOn-clause-ok : goal.returns-in_ok-now-in-GoesOn-clause-ok
returns-in_ok-now-in-GoesOn-clause-ok g c =
    let outside = g.T.Tasks.outside in
    let shows = g.T.Tasks.shows in
    let gone = c.in_ok-gone-in-GoesOn.gone in
    let place = c.in-GoesOn.place in
    let first = standing (moved (GoesOn place.room (left_in place) c.in-GoesOn.result) (waits_of c.args.frames.now.items)) c.args.scopes.now c.args.context.now in
    let second = standing_of gone.now c.run_script.new.frames.items c.run_script.new.scopes c.run_script.new.context in
    let third = standing_of c.in_ok-now-in-GoesOn.now c.onward.new.frames.items c.onward.new.scopes c.onward.new.context in
    subst (λ now. TakesSteps outside gone.steps (standing_of now c.args.frames.now.items c.args.scopes.now c.args.context.now) (shows c.args.tasks.now) third (shows c.run_script.new.tasks)) (sym c.in-GoesOn.is)
    (steps_lead outside gone.steps first second third (shows c.args.tasks.now) (shows c.run_script.new.tasks) c.in_ok-gone-in-GoesOn.ensures.ok c.in_ok-now-in-GoesOn.ensures)

pub returns-in-Tests-clause-ok : goal.returns-in-Tests-clause-ok
returns-in-Tests-clause-ok g c =
    let outside = g.T.Tasks.outside in
    let shows = g.T.Tasks.shows c.args.tasks.now in
    IfOk-weaker c.run_turns.result _ _ (λ gone went.
    subst (λ now. TakesSteps outside gone.steps (standing_of now c.args.frames.now.items c.args.scopes.now c.args.context.now) shows
    (standing_of gone.now c.run_turns.new.frames.items c.run_turns.new.scopes c.run_turns.new.context) shows) (sym c.in-Tests.is) (went shows)) c.run_turns.ensures.ok

pub returns-in-Tests-clause-uncounted : goal.returns-in-Tests-clause-uncounted
returns-in-Tests-clause-uncounted g c = on_err_weaker c.run_turns.result (λ kept none. let same = kept none in (same.0, same.1, refl)) c.run_turns.ensures.uncounted
