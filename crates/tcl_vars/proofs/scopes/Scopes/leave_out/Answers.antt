-- The store does what its frame does.
use Rattle.std.proofs.Common.{◌≡◌, ◌<◌, ◌+◌, length, [], set, sym, ap, ◌∙◌, subst, arith}
use Rattle.std.proofs.lemmas.List.{get_or_default}
use Rattle.tcl_vars.specs.Shown.{shown}
use Rattle.tcl_vars.specs.Store.{content_at, frame_at, frame_count}
use Rattle.tcl_vars.specs.Table.{value_at}
use Rattle.tcl_vars.specs.Unset.{frame_but}
use Rattle.tcl_vars.proofs.UnsetLemmas.{IsSound-but}
use Rattle.tcl_vars.proofs.scopes.Scopes.leave_out.Goals as goal

pub invariant_of-self : goal.invariant_of-self
invariant_of-self c =
    let within : c.args.place.frame < length c.self.inside.frames.items = omega (arith, ap length c.self.view_is) in
    let frame : c.index_mut-frame.result.now ≡ frame_at c.self.inside.frames.items c.args.place.frame
    = c.index_mut-frame.ensures.value ∙ get_or_default c.self.inside.frames.items c.args.place.frame c.index_mut-frame.result.now [] within in
    IsSound-but c.self.inside.frames.items c.self.inside.count c.self.invariant c.args.place.frame within c.args.pattern.now c.args.place.variable.now
    (content_at c.self.inside.frames.items (shown c.args.place)) c.leave_out.result c.leave_out.new.frame
    (c.leave_out.ensures.frame ∙ ap (λ f. frame_but c.args.pattern.now c.args.place.variable.now (value_at f c.args.place.variable.now) f) frame)
    (c.leave_out.ensures.counted ∙ ap frame_count frame)

pub returns : goal.returns
returns c =
    let within : c.args.place.frame < length c.self.inside.frames.items = omega (arith, ap length c.self.view_is) in
    let frame : c.index_mut-frame.result.now ≡ frame_at c.self.inside.frames.items c.args.place.frame
    = c.index_mut-frame.ensures.value ∙ get_or_default c.self.inside.frames.items c.args.place.frame c.index_mut-frame.result.now [] within in
    ap (set c.self.inside.frames.items c.args.place.frame)
    (c.leave_out.ensures.frame ∙ ap (λ f. frame_but c.args.pattern.now c.args.place.variable.now (value_at f c.args.place.variable.now) f) frame)
    ∙ ap (λ store. set store c.args.place.frame (frame_but c.args.pattern.now c.args.place.variable.now (content_at store (shown c.args.place)) (frame_at store c.args.place.frame)))
    c.self.view_is
