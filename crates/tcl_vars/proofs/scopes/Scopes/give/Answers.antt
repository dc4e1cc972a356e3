-- The store stays sound.
use Rattle.std.proofs.Common.{◌≡◌, ◌<◌, ◌+◌, length, [], sym, ap, ◌∙◌, subst, arith}
use Rattle.std.proofs.lemmas.List.{get_or_default}
use Rattle.tcl_vars.specs.Links.{AllBelow}
use Rattle.tcl_vars.specs.Store.{frame_at, frame_count}
use Rattle.tcl_vars.proofs.BelowLemmas.{AllBelow-with_value}
use Rattle.tcl_vars.proofs.GiveLemmas.{IsSound-grown}
use Rattle.tcl_vars.proofs.scopes.Scopes.give.Goals as goal

pub invariant_of-self-in-Some : goal.invariant_of-self-in-Some
invariant_of-self-in-Some c =
    let within : c.args.place.frame < length c.self.inside.frames.items = omega (arith, ap length c.self.view_is) in
    let frame : c.index_mut-frame.result.now ≡ frame_at c.self.inside.frames.items c.args.place.frame
    = c.index_mut-frame.ensures.value ∙ get_or_default c.self.inside.frames.items c.args.place.frame c.index_mut-frame.result.now [] within in
    let given = rw c.in-Some.is at c.in_ok-added.ensures.ok in
    IsSound-grown c.self.inside.frames.items c.self.inside.count c.self.invariant c.args.place.frame within c.in-Some.added c.give.new.frame
    (given.1 ∙ ap (λ f. frame_count f + c.in-Some.added) frame) given.2
    (subst (AllBelow c.args.place.frame) (sym given.0)
    (AllBelow-with_value c.args.place.frame c.index_mut-frame.result.now c.args.place.variable.now c.args.content
    (subst (AllBelow c.args.place.frame) (sym frame) (c.self.invariant.descending c.args.place.frame)) c.requires.below))
