use Rattle.std.proofs.Common.{◌≡◌, ap, ◌∙◌, subst}
use Rattle.tk_tree.specs.Own.{child_numbers}
use Rattle.tk_tree.specs.Shared.{own_of}
use Rattle.tk_tree.specs.Orders.{below, below_first}
use Rattle.tk_tree.specs.Walks.{all_below, all_below_first}
use Rattle.tk_tree.proofs.Orders.{below_children, first_children}
use Rattle.tk_tree.proofs.windows.Windows.children_of.Goals as goal

pub returns-clause-children : goal.returns-clause-children
returns-clause-children c = c.children.ensures ∙ c.self.invariant.indexed.children_are c.args.owner c.args.number ∙ ap (λ held. child_numbers c.args.number (own_of c.args.owner held).windows) c.self.view_is

pub returns-clause-below : goal.returns-clause-below
returns-clause-below c =
    let sound = c.self.invariant.sound c.args.owner in
    subst (λ held. below c.args.number (own_of c.args.owner held).windows ≡ all_below (child_numbers c.args.number (own_of c.args.owner held).windows) (own_of c.args.owner held).windows) c.self.view_is
    (below_children c.args.number _ sound.parents sound.rising)

pub returns-clause-below_first : goal.returns-clause-below_first
returns-clause-below_first c =
    let sound = c.self.invariant.sound c.args.owner in
    subst (λ held. below_first c.args.number (own_of c.args.owner held).windows ≡ all_below_first (child_numbers c.args.number (own_of c.args.owner held).windows) (own_of c.args.owner held).windows) c.self.view_is
    (first_children c.args.number _ sound.parents sound.rising)
