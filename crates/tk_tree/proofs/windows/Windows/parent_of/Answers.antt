use Rattle.std.proofs.Common.{subst}
use Rattle.tk_tree.specs.Own.{IsSound}
use Rattle.tk_tree.specs.Shared.{own_of}
use Rattle.tk_tree.proofs.Ways.{parent_older, up_to_none, up_to_parent}
use Rattle.tk_tree.proofs.windows.Windows.parent_of.Goals as goal

pub returns-in-Some-clause-way : goal.returns-in-Some-clause-way
returns-in-Some-clause-way c =
    let sound = subst (λ held. IsSound (own_of c.args.owner held)) c.self.view_is (c.self.invariant.sound c.args.owner) in
    up_to_parent (own_of c.args.owner c.args.self.now) sound c.args.number c.in-Some.window.now c.in-Some.ensures

pub returns-in-Some-clause-older : goal.returns-in-Some-clause-older
returns-in-Some-clause-older c =
    let sound = subst (λ held. IsSound (own_of c.args.owner held)) c.self.view_is (c.self.invariant.sound c.args.owner) in
    parent_older (own_of c.args.owner c.args.self.now) sound c.args.number c.in-Some.window.now c.in-Some.ensures

pub returns-in-None-clause-way : goal.returns-in-None-clause-way
returns-in-None-clause-way c =
    let sound = subst (λ held. IsSound (own_of c.args.owner held)) c.self.view_is (c.self.invariant.sound c.args.owner) in
    up_to_none (own_of c.args.owner c.args.self.now) sound c.args.number c.in-None.ensures
