-- The store takes what its frame takes.
use Rattle.std.proofs.Common.{◌≡◌, ◌<◌, ◌-◌, length, [], ap, ◌∙◌, subst, arith}
use Rattle.std.proofs.lemmas.List.{get_or_default}
use Rattle.tcl_vars.specs.Put.{PutsText}
use Rattle.tcl_vars.specs.Shown.{shown}
use Rattle.tcl_vars.specs.Store.{frame_at}
use Rattle.tcl_vars.proofs.StoreLemmas.{IsSound-set}
use Rattle.tcl_vars.proofs.scopes.Scopes.put.Goals as goal

pub invariant_of-self-in-Added : goal.invariant_of-self-in-Added
invariant_of-self-in-Added c =
    let within : c.args.place.frame < length c.self.inside.frames.items = omega (arith, ap length c.self.view_is) in
    let frame : c.index_mut-frame.result.now ≡ frame_at c.self.inside.frames.items c.args.place.frame
    = c.index_mut-frame.ensures.value ∙ get_or_default c.self.inside.frames.items c.args.place.frame c.index_mut-frame.result.now [] within in
    IsSound-set c.self.inside.frames.items c.self.inside.count c.self.invariant (shown c.args.place) within c.args.value c.in-Added.added c.put.new.frame
    (subst (λ f. PutsText f (shown c.args.place) c.args.value (4096 - c.self.inside.count) c.in-Added.added c.put.new.frame) frame
    (rw c.in-Added.is at c.in_ok-added.ensures.ok))
