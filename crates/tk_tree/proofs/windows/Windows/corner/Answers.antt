use Rattle.std.proofs.Common.{Some, None, subst, sym, arith}
use Rattle.tk_tree.specs.Own.{IsSound}
use Rattle.tk_tree.specs.Shared.{own_of}
use Rattle.tk_tree.proofs.Corners.{IsAddedUp, all_added, falls, near, step_up, top}
use Rattle.tk_tree.proofs.Ways.{parent_older}
use Rattle.tk_tree.proofs.windows.Windows.corner.Goals as goal

pub loop-up-preserved-in-Some-window : goal.loop-up-preserved-in-Some-window
loop-up-preserved-in-Some-window c =
    let sound = subst (λ held. IsSound (own_of c.args.win.owner held)) c.self.view_is (c.self.invariant.sound c.args.win.owner) in
    let own = own_of c.args.win.owner c.args.self.now in
    let added : IsAddedUp own c.args.win.number c.loop-up.x c.loop-up.y (Some c.in-Some.number) = subst (IsAddedUp own c.args.win.number c.loop-up.x c.loop-up.y) c.in-Some.is c.loop-up.invariant in
    step_up own sound c.args.win.number c.loop-up.x c.loop-up.y c.in-Some.number c.in-Some-window.window.now _ _ c.in-Some-window.ensures c.offset-across.ensures.across c.offset-across.ensures.down c.offset-across.ensures.small.0 c.offset-across.ensures.small.1 added

pub returns-clause-near : goal.returns-clause-near
returns-clause-near c =
    let sound = subst (λ held. IsSound (own_of c.args.win.owner held)) c.self.view_is (c.self.invariant.sound c.args.win.owner) in
    near (own_of c.args.win.owner c.args.self.now) sound c.args.win.number c.loop-up.x c.loop-up.y c.loop-up.up c.loop-up.invariant

pub returns-clause-corner : goal.returns-clause-corner
returns-clause-corner c =
    let sound = subst (λ held. IsSound (own_of c.args.win.owner held)) c.self.view_is (c.self.invariant.sound c.args.win.owner) in
    let own = own_of c.args.win.owner c.args.self.now in
    let added : IsAddedUp own c.args.win.number c.loop-up.x c.loop-up.y None = subst (IsAddedUp own c.args.win.number c.loop-up.x c.loop-up.y) c.in_default.is c.loop-up.invariant in
    sym (all_added own sound c.args.win.number c.loop-up.x c.loop-up.y added)

pub loop-up-preserved : goal.loop-up-preserved
loop-up-preserved c =
    let sound = subst (λ held. IsSound (own_of c.args.win.owner held)) c.self.view_is (c.self.invariant.sound c.args.win.owner) in
    let own = own_of c.args.win.owner c.args.self.now in
    let added : IsAddedUp own c.args.win.number c.loop-up.x c.loop-up.y (Some c.in-Some.number) = subst (IsAddedUp own c.args.win.number c.loop-up.x c.loop-up.y) c.in-Some.is c.loop-up.invariant in
    top own sound c.args.win.number c.loop-up.x c.loop-up.y c.in-Some.number c.in-None.ensures added

pub overflow_add-x : goal.overflow_add-x
overflow_add-x c =
    let sound = subst (λ held. IsSound (own_of c.args.win.owner held)) c.self.view_is (c.self.invariant.sound c.args.win.owner) in
    let fits = near (own_of c.args.win.owner c.args.self.now) sound c.args.win.number c.loop-up.x c.loop-up.y c.loop-up.up c.loop-up.invariant in
    omega (arith, fits)

pub overflow_add-y : goal.overflow_add-y
overflow_add-y c =
    let sound = subst (λ held. IsSound (own_of c.args.win.owner held)) c.self.view_is (c.self.invariant.sound c.args.win.owner) in
    let fits = near (own_of c.args.win.owner c.args.self.now) sound c.args.win.number c.loop-up.x c.loop-up.y c.loop-up.up c.loop-up.invariant in
    omega (arith, fits)

pub loop-up-smaller-in-Some-window : goal.loop-up-smaller-in-Some-window
loop-up-smaller-in-Some-window c =
    let sound = subst (λ held. IsSound (own_of c.args.win.owner held)) c.self.view_is (c.self.invariant.sound c.args.win.owner) in
    let older = parent_older (own_of c.args.win.owner c.args.self.now) sound c.in-Some.number c.in-Some-window.window.now c.in-Some-window.ensures in
    falls c.in-Some-window.window.now.parent c.in-Some.number c.loop-up.up c.in-Some.is older
