-- The store unsets what its frame does.
use Rattle.std.proofs.Common.{◌≡◌, ◌<◌, length, [], ap, ◌∙◌, subst, arith}
use Rattle.std.proofs.lemmas.List.{get_or_default}
use Rattle.tcl_vars.specs.Shown.{shown}
use Rattle.tcl_vars.specs.Store.{frame_at}
use Rattle.tcl_vars.specs.Unset.{UnsetsText}
use Rattle.tcl_vars.proofs.UnsetLemmas.{IsSound-unset}
use Rattle.std.proofs.Common.{set}
use Rattle.tcl_vars.specs.Unset.{IsGone}
use Rattle.tcl_vars.proofs.LawLemmas.{IsGone-set}
use Rattle.tcl_vars.proofs.scopes.Scopes.take.Goals as goal

pub invariant_of-self-in-Some : goal.invariant_of-self-in-Some
invariant_of-self-in-Some c =
    let within : c.args.place.frame < length c.self.inside.frames.items = omega (arith, ap length c.self.view_is) in
    let frame : c.index_mut-frame.result.now ≡ frame_at c.self.inside.frames.items c.args.place.frame
    = c.index_mut-frame.ensures.value ∙ get_or_default c.self.inside.frames.items c.args.place.frame c.index_mut-frame.result.now [] within in
    IsSound-unset c.self.inside.frames.items c.self.inside.count c.self.invariant (shown c.args.place) within c.in-Some.removed c.unset.new.frame
    (subst (λ f. UnsetsText f (shown c.args.place) c.in-Some.removed c.unset.new.frame) frame (rw c.in-Some.is at c.in_ok-removed.ensures.ok))

pub returns-in-Some-clause-gone : goal.returns-in-Some-clause-gone
returns-in-Some-clause-gone c =
    let within : c.args.place.frame < length c.self.inside.frames.items = omega (arith, ap length c.self.view_is) in
    let frame : c.index_mut-frame.result.now ≡ frame_at c.self.inside.frames.items c.args.place.frame
    = c.index_mut-frame.ensures.value ∙ get_or_default c.self.inside.frames.items c.args.place.frame c.index_mut-frame.result.now [] within in
    subst (λ s. IsGone s (set c.self.inside.frames.items c.args.place.frame c.unset.new.frame) (shown c.args.place)) c.self.view_is
    (IsGone-set c.self.inside.frames.items (shown c.args.place) within c.in-Some.removed c.unset.new.frame
    (subst (λ f. UnsetsText f (shown c.args.place) c.in-Some.removed c.unset.new.frame) frame (rw c.in-Some.is at c.in_ok-removed.ensures.ok)))
