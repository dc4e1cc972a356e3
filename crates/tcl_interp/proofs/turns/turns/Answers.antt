use Rattle.std.proofs.Common.{◌≡◌, ◌∙◌, subst, arith}
use Rattle.tcl_interp.specs.Finish.{Tests}
use Rattle.tcl_interp.specs.Moves.{moved, standing}
use Rattle.tcl_interp.specs.Steps.{TakesSteps}
use Rattle.tcl_interp.specs.Turns.{halted}
use Rattle.tcl_interp.proofs.SimpleLemmas.{on_err, steps_on}
use Rattle.tcl_interp.proofs.turns.turns.Goals as goal

pub turns-preserved : goal.turns-preserved
turns-preserved g c =
    let outside = g.T.Tasks.outside in
    let room = c.args.room in
    let looping = c.args.looping.now in
    let context = c.args.context.now in
    let turned = c.in_ok-turned.turned in
    record {
      same = λ waits shows.
          let first = standing (moved (Tests room looping) waits) c.args.scopes.now context in
          let second = standing (moved (Tests room looping) waits) c.turns.scopes context in
          let third = standing (moved (Tests room looping) waits) c.turn.new.scopes context in
          steps_on outside c.turns.steps turned.steps first second third shows shows shows (c.turns.invariant.same waits shows)
          (subst (λ at. TakesSteps outside turned.steps second shows (standing (halted room looping waits at) c.turn.new.scopes context) shows) c.in-Test.is (c.in_ok-turned.ensures.ok waits shows));
      most = omega (arith, c.in_ok-turned.ensures.most, c.turns.invariant.most);
      counted = omega (arith, c.in_ok-turned.ensures.counted, c.turns.invariant.counted);
      untaken = λ none.
          let before : c.turns.steps ≡ 0 = omega (arith, none) in
          let own : turned.steps ≡ 0 = omega (arith, none) in
          c.in_ok-turned.ensures.untaken own ∙ c.turns.invariant.untaken before;
    }

pub returns-in_default-clause-ok : goal.returns-in_default-clause-ok
returns-in_default-clause-ok g c = λ waits shows.
    let room = c.args.room in
    let looping = c.args.looping.now in
    let context = c.args.context.now in
    let turned = c.in_ok-turned.turned in
    let first = standing (moved (Tests room looping) waits) c.args.scopes.now context in
    let second = standing (moved (Tests room looping) waits) c.turns.scopes context in
    let third = standing (halted room looping waits turned.at) c.turn.new.scopes context in
    steps_on g.T.Tasks.outside c.turns.steps turned.steps first second third shows shows shows (c.turns.invariant.same waits shows) (c.in_ok-turned.ensures.ok waits shows)

pub returns-in_err-turned-clause-uncounted : goal.returns-in_err-turned-clause-uncounted
returns-in_err-turned-clause-uncounted g c =
    on_err c.from_residual.result (c.turn.new.left ≡ c.args.left.now → c.turn.new.scopes ≡ c.args.scopes.now) (λ same.
    let none : c.turns.steps ≡ 0 = omega (arith, same, c.in_err-turned.ensures.taken, c.turns.invariant.counted) in
    let counted : c.turn.new.left ≡ c.turns.left = omega (arith, same, none, c.turns.invariant.counted) in
    c.in_err-turned.ensures.uncounted counted ∙ c.turns.invariant.untaken none)

pub returns-in_default-clause-untaken : goal.returns-in_default-clause-untaken
returns-in_default-clause-untaken g c = λ none.
    let before : c.turns.steps ≡ 0 = omega (arith, none) in
    let own : c.in_ok-turned.turned.steps ≡ 0 = omega (arith, none) in
    c.in_ok-turned.ensures.untaken own ∙ c.turns.invariant.untaken before
