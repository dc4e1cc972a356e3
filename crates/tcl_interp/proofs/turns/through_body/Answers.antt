use Rattle.std.proofs.Common.{◌-◌, [], ◌∷◌, subst}
use Rattle.tcl_interp.specs.Finish.{ForBody, GoesOn}
use Rattle.tcl_interp.specs.Moves.{moved, standing}
use Rattle.tcl_interp.specs.Rests.{commands_in}
use Rattle.tcl_interp.specs.Steps.{TakesSteps}
use Rattle.tcl_interp.specs.Turns.{halted}
use Rattle.tcl_interp.specs.Whole.{reached_to}
use Rattle.tcl_interp.proofs.SimpleLemmas.{steps_on}
use Rattle.tcl_interp.proofs.turns.through_body.Goals as goal

pub returns-in-Stopped-clause-ok : goal.returns-in-Stopped-clause-ok
returns-in-Stopped-clause-ok g c = rw c.in-Stopped.is (λ waits shows.
    let outside = g.T.Tasks.outside in
    let room = c.args.room in
    let after = ForBody room c.args.looping.now ∷ waits in
    let context = c.args.context.now in
    let first = standing (moved (GoesOn (room - 1) (commands_in c.args.scripts.now.body) []) after) c.args.scopes.now context in
    subst (λ way. TakesSteps outside c.in_ok-reached.reached.steps first shows (standing (reached_to (room - 1) way after) c.run_through.new.scopes context) shows) c.in-Stopped.is (c.in_ok-reached.ensures.ok after shows))

pub returns-clause-ok : goal.returns-clause-ok
returns-clause-ok g c = λ waits shows.
    let outside = g.T.Tasks.outside in
    let room = c.args.room in
    let looping = c.args.looping.now in
    let after = ForBody room looping ∷ waits in
    let context = c.args.context.now in
    let store = c.run_through.new.scopes in
    let steps = c.in_ok-reached.reached.steps in
    let behind = c.in_ok-behind-in-Whole.behind in
    let text = c.in-Whole.field-0 in
    let first = standing (moved (GoesOn (room - 1) (commands_in c.args.scripts.now.body) []) after) c.args.scopes.now context in
    steps_on outside steps behind.steps first (standing (moved (GoesOn (room - 1) [] text) after) store context) (standing (halted room looping waits behind.at) c.behind_body.new.scopes context) shows shows shows
    (subst (λ way. TakesSteps outside steps first shows (standing (reached_to (room - 1) way after) store context) shows) c.in-Whole.is (c.in_ok-reached.ensures.ok after shows))
    (c.in_ok-behind-in-Whole.ensures.ok text waits shows)
