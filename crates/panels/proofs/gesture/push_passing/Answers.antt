use Rattle.std.proofs.Common.{◌≡◌, ◌++◌, ◌∷◌, ◌-◌, ap, sym, ◌∙◌, append_assoc, append-nil, arith}
use Rattle.panels.specs.Gestures.{moved, passing, spot_nearer}
use Rattle.panels.proofs.Moves.{passing-none, passing-one}
use Rattle.panels.proofs.gesture.push_passing.Goals as goal

pub loop-left-preserved : goal.loop-left-preserved
loop-left-preserved c =
    let at = c.loop-left in
    let next = spot_nearer at.spot c.args.to at.left in
    let before : at.lines.items ++ (moved next ∷ passing next c.args.to (at.left - 1)) ≡ c.args.lines.now.items ++ passing c.args.from c.args.to c.args.moves =
    rw (passing-one at.spot c.args.to at.left c.loop-left-test.true) at at.invariant in
    rw (c.in_ok-push.ensures.items, append_assoc, c.moved.ensures, c.nearer.ensures, c.nearer-in-loop-left.ensures) before

pub returns : goal.returns
returns c =
    let at = c.loop-left in
    let none = passing-none at.spot c.args.to at.left (omega (arith, c.loop-left-test.false)) in
    sym (append-nil at.lines.items) ∙ ap (λ others. at.lines.items ++ others) (sym none) ∙ at.invariant
