use Rattle.std.proofs.Common.{◌≡◌, subst, arith}
use Rattle.tcl_interp.specs.Finish.{Tests}
use Rattle.tcl_interp.specs.Items.{halted_over, looping_over}
use Rattle.tcl_interp.specs.Moves.{moved, standing}
use Rattle.tcl_interp.specs.Steps.{TakesSteps}
use Rattle.tcl_interp.proofs.SimpleLemmas.{steps_on}
use Rattle.tcl_interp.proofs.items.items_turns.Goals as goal

pub turns-preserved : goal.turns-preserved
turns-preserved g c =
    let outside = g.T.Tasks.outside in
    let room = c.args.room in
    let body = c.args.body.now in
    let context = c.args.context.now in
    let turned = c.in_ok-turned.turned in
    record {
      same = rw c.in-Test.is (λ waits shows.
          let first = standing (moved (Tests room (looping_over body c.args.groups)) waits) c.args.scopes.now context in
          let second = standing (moved (Tests room (looping_over body c.turns.items)) waits) c.turns.scopes context in
          let third = standing (moved (Tests room (looping_over body c.in-Test.rest)) waits) c.items_turn.new.scopes context in
          steps_on outside c.turns.steps turned.steps first second third shows shows shows (c.turns.invariant.same waits shows)
          (subst (λ at. TakesSteps outside turned.steps second shows (standing (halted_over room body waits at) c.items_turn.new.scopes context) shows) c.in-Test.is (c.in_ok-turned.ensures.ok waits shows)));
      most = omega (arith, c.in_ok-turned.ensures.most, c.turns.invariant.most);
      counted = omega (arith, c.in_ok-turned.ensures.counted, c.turns.invariant.counted);
    }

pub returns-in_default-clause-ok : goal.returns-in_default-clause-ok
returns-in_default-clause-ok g c = λ waits shows.
    let room = c.args.room in
    let body = c.args.body.now in
    let context = c.args.context.now in
    let turned = c.in_ok-turned.turned in
    let first = standing (moved (Tests room (looping_over body c.args.groups)) waits) c.args.scopes.now context in
    let second = standing (moved (Tests room (looping_over body c.turns.items)) waits) c.turns.scopes context in
    let third = standing (halted_over room body waits turned.at) c.items_turn.new.scopes context in
    steps_on g.T.Tasks.outside c.turns.steps turned.steps first second third shows shows shows (c.turns.invariant.same waits shows) (c.in_ok-turned.ensures.ok waits shows)
