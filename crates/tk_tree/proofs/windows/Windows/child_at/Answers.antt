use Rattle.std.proofs.Common.{ap, subst, sym, ◌∙◌}
use Rattle.std.specs.Prelude.{reverse}
use Rattle.tk_tree.specs.Own.{IsSound}
use Rattle.tk_tree.specs.Shared.{own_of}
use Rattle.tk_tree.proofs.Points.{at_children, from_children}
use Rattle.tk_tree.proofs.windows.Windows.child_at.Goals as goal

pub loop-newest-init : goal.loop-newest-init
loop-newest-init c =
    let own = own_of c.args.owner c.args.self.now in
    let sound = subst (λ held. IsSound (own_of c.args.owner held)) c.self.view_is (c.self.invariant.sound c.args.owner) in
    from_children own sound c.args.number c.args.x c.args.y ∙ ap (λ numbers. at_children c.args.x c.args.y own.windows (reverse numbers)) (sym c.children_of-rest.ensures.children)
