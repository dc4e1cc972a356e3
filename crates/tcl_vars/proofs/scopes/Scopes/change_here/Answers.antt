-- The store changes as its frame does.
use Rattle.std.proofs.Common.{◌≡◌, ◌≢◌, ◌<◌, length, [], None, MatchBool, set, ap, ◌∙◌, subst, arith}
use Rattle.std.proofs.lemmas.List.{get_or_default}
use Rattle.tcl_vars.specs.Changing.{ChangesHere, ChangesText}
use Rattle.tcl_vars.specs.Shown.{shown}
use Rattle.tcl_vars.specs.Store.{content_at, frame_at, link_of}
use Rattle.tcl_vars.specs.Table.{value_at}
use Rattle.tcl_vars.proofs.ChangeLemmas.{AfterChange-store, IsSound-change, IsSound-same}
use Rattle.tcl_vars.proofs.scopes.Scopes.change_here.Goals as goal

pub invariant_of-self : goal.invariant_of-self
invariant_of-self c =
    let within : c.args.place.frame < length c.self.inside.frames.items = omega (arith, ap length c.self.view_is) in
    let frame : c.index_mut-frame.result.now ≡ frame_at c.self.inside.frames.items c.args.place.frame
    = c.index_mut-frame.ensures.value ∙ get_or_default c.self.inside.frames.items c.args.place.frame c.index_mut-frame.result.now [] within in
    IsSound-same c.self.inside.frames.items c.self.inside.count c.self.invariant c.args.place.frame c.change.new.frame (c.in_err-done.ensures.err ∙ frame)

pub invariant_of-self-2 : goal.invariant_of-self-2
invariant_of-self-2 c =
    let within : c.args.place.frame < length c.self.inside.frames.items = omega (arith, ap length c.self.view_is) in
    let frame : c.index_mut-frame.result.now ≡ frame_at c.self.inside.frames.items c.args.place.frame
    = c.index_mut-frame.ensures.value ∙ get_or_default c.self.inside.frames.items c.args.place.frame c.index_mut-frame.result.now [] within in
    IsSound-change c.self.inside.frames.items c.self.inside.count c.self.invariant (shown c.args.place) within c.args.edit c.change.new.frame c.in_ok-done.done
    (subst (λ f. MatchBool c.in_ok-done.done (ChangesText f (shown c.args.place) c.args.edit c.change.new.frame)
    ((link_of (value_at f c.args.place.variable.now) ≢ None) × (c.change.new.frame ≡ f))) frame c.in_ok-done.ensures.ok)

pub returns-clause-ok : goal.returns-clause-ok
returns-clause-ok c =
    let within : c.args.place.frame < length c.self.inside.frames.items = omega (arith, ap length c.self.view_is) in
    let frame : c.index_mut-frame.result.now ≡ frame_at c.self.inside.frames.items c.args.place.frame
    = c.index_mut-frame.ensures.value ∙ get_or_default c.self.inside.frames.items c.args.place.frame c.index_mut-frame.result.now [] within in
    subst (λ s. MatchBool c.in_ok-done.done (ChangesHere s (shown c.args.place) c.args.edit (set c.self.inside.frames.items c.args.place.frame c.change.new.frame))
    ((link_of (content_at s (shown c.args.place)) ≢ None) × (set c.self.inside.frames.items c.args.place.frame c.change.new.frame ≡ s))) c.self.view_is
    (AfterChange-store c.self.inside.frames.items c.self.inside.count c.self.invariant (shown c.args.place) within c.args.edit c.change.new.frame c.in_ok-done.done
    (subst (λ f. MatchBool c.in_ok-done.done (ChangesText f (shown c.args.place) c.args.edit c.change.new.frame)
    ((link_of (value_at f c.args.place.variable.now) ≢ None) × (c.change.new.frame ≡ f))) frame c.in_ok-done.ensures.ok))
