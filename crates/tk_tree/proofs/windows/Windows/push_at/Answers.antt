use Rattle.std.proofs.Common.{◌++◌, ◌-◌, ◌∷◌, [], ap, append-nil, append_assoc, arith, length, sym, ◌∙◌}
use Rattle.tk_tree.specs.Shared.{own_of}
use Rattle.tk_tree.specs.Ways.{at_point}
use Rattle.tk_tree.proofs.windows.Windows.push_at.Goals as goal

pub loop-child-smaller : goal.loop-child-smaller
loop-child-smaller c = let on = ap length c.in-Some.ensures.on in omega (arith, on)

pub loop-child-preserved : goal.loop-child-preserved
loop-child-preserved c =
    let windows = (own_of c.args.owner c.args.self.now).windows in
    let child = c.in-Some.child.now in
    let below = at_point child.number (c.loop-child.x - child.rectangle.x) (c.loop-child.y - child.rectangle.y) windows in
    ap (λ way. way ++ below) c.in_ok-push.ensures.items ∙ append_assoc c.loop-child.way.items (child.number ∷ []) below ∙ ap (λ on. c.loop-child.way.items ++ on) (sym c.in-Some.ensures.on) ∙ c.loop-child.invariant

pub returns : goal.returns
returns c = sym (append-nil c.loop-child.way.items) ∙ ap (λ on. c.loop-child.way.items ++ on) (sym c.in_default.ensures.on) ∙ c.loop-child.invariant
