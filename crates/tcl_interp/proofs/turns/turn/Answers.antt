use Rattle.std.proofs.Common.{◌-◌, [], ◌∷◌, true, false, IsOk, subst}
use Rattle.tcl_table.specs.Source.{script_of}
use Rattle.tcl_interp.specs.Finish.{ForBody, GoesOn}
use Rattle.tcl_interp.specs.Moves.{moved, standing}
use Rattle.tcl_interp.specs.Rests.{commands_in}
use Rattle.tcl_interp.specs.Steps.{TakesSteps}
use Rattle.tcl_interp.specs.Turns.{KnowsTest, halted}
use Rattle.tcl_interp.proofs.TurnLemmas.{turn_ends, turn_goes}
use Rattle.tcl_interp.proofs.turns.turn.Goals as goal

pub returns-then-not-holds-clause-ok : goal.returns-then-not-holds-clause-ok
returns-then-not-holds-clause-ok g c = λ waits shows.
    let looping = c.args.looping.now in
    let store = c.args.scopes.now in
    let known : KnowsTest store c.here-level.result looping.test c.in-Some.holds = rw c.in-Some.is at c.in_ok-known.ensures in
    let knows : KnowsTest store c.here-level.result looping.test false = subst (λ holds. KnowsTest store c.here-level.result looping.test holds) c.if-not-holds.true known in
    turn_ends g.T.Tasks.outside c.args.room looping waits shows store c.args.context.now c.here-level.result c.here-level.ensures.value knows

pub returns-clause-ok : goal.returns-clause-ok
returns-clause-ok g c = λ waits shows.
    let outside = g.T.Tasks.outside in
    let room = c.args.room in
    let looping = c.args.looping.now in
    let store = c.args.scopes.now in
    let context = c.args.context.now in
    let turned = c.in_ok-turned.turned in
    let after = standing (halted room looping waits turned.at) c.through_body.new.scopes context in
    let known : KnowsTest store c.here-level.result looping.test c.in-Some.holds = rw c.in-Some.is at c.in_ok-known.ensures in
    let knows : KnowsTest store c.here-level.result looping.test true = subst (λ holds. KnowsTest store c.here-level.result looping.test holds) c.if-not-holds.false known in
    let read : IsOk (script_of looping.body) = subst (λ script. IsOk (script_of script)) c.requires.body c.args.scripts.now.body_read in
    turn_goes outside room looping waits shows store context c.here-level.result turned.steps after c.here-level.ensures.value knows c.requires.room read
    (subst (λ script. TakesSteps outside turned.steps (standing (moved (GoesOn (room - 1) (commands_in script) []) (ForBody room looping ∷ waits)) store context) shows after shows) c.requires.body (c.in_ok-turned.ensures.ok waits shows))
