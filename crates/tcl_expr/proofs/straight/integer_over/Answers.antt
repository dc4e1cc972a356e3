use Rattle.std.proofs.Common.{◌≡◌, ◌∙◌, Some, sym, arith, rules}
use Rattle.std.proofs.lemmas.Grind.{common_steps}
use Rattle.tcl_expr.specs.Straight.{straight, top_integer}
use Rattle.tcl_expr.proofs.StraightLemmas.{straight_ends}
use Rattle.tcl_expr.proofs.straight.integer_over.Goals as goal

pub loop-place-preserved : goal.loop-place-preserved
loop-place-preserved g c = sym c.in_ok-place.ensures.0 ∙ c.loop-place.invariant

pub returns : goal.returns
returns g c =
    let e : straight (g.N.Numbers.number c.args.numbers.now) 0 c.args.steps.now c.args.waiting ≡ Some (top_integer c.loop-place.stack) =
    straight_ends (g.N.Numbers.number c.args.numbers.now) c.args.steps.now c.loop-place.place c.loop-place.stack _ c.loop-place-test.false c.loop-place.invariant in
    first_of (grind (arith, e, c.pop.ensures.top), search (rules, e, c.pop.ensures.top), grind (arith, common_steps, e, c.pop.ensures.top))
