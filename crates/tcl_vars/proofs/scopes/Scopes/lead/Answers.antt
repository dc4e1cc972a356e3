-- Each turn follows one link, to an earlier frame.
use Rattle.std.proofs.Common.{◌≡◌, ◌<◌, ◌∙◌, sym, ap, option_copied, arith}
use Rattle.tcl_vars.specs.Shown.{shown}
use Rattle.tcl_vars.specs.Store.{link_of, indexed, led}
use Rattle.tcl_vars.proofs.BelowLemmas.{links_descend}
use Rattle.tcl_vars.proofs.LinkLemmas.{led-link, led-nowhere, led-here}
use Rattle.tcl_vars.proofs.scopes.Scopes.lead.Goals as goal

followed : (c : goal.In_ok-place) → (c.in_ok-place.place.frame < c.loop-frame.place.frame)
    × (led c.args.self.now c.in_ok-place.place.frame (shown c.in_ok-place.place) ≡ led c.args.self.now c.loop-frame.place.frame (shown c.loop-frame.place))
followed c =
    led-link c.args.self.now (links_descend c.self.view_is c.self.invariant.descending) (shown c.loop-frame.place) (c.in-Some.frame, c.in-Some.name.now)
    (sym (c.in-Some.ensures.link ∙ ap link_of c.content-content.ensures))
    (shown c.in_ok-place.place)
    (sym (c.in_ok-place.ensures.place ∙ ap (λ p. indexed p (option_copied c.loop-frame.place.element)) c.place_of.ensures.place))

pub returns-in_err-place : goal.returns-in_err-place
returns-in_err-place c =
    rw c.from_residual.ensures
    (sym c.loop-frame.invariant.leads
    ∙ led-nowhere c.args.self.now (links_descend c.self.view_is c.self.invariant.descending) (shown c.loop-frame.place) (c.in-Some.frame, c.in-Some.name.now)
    (sym (c.in-Some.ensures.link ∙ ap link_of c.content-content.ensures))
    (sym (c.in_err-place.ensures.place ∙ ap (λ p. indexed p (option_copied c.loop-frame.place.element)) c.place_of.ensures.place)))

pub loop-frame-smaller : goal.loop-frame-smaller
loop-frame-smaller c = (followed c).0

pub loop-frame-preserved : goal.loop-frame-preserved
loop-frame-preserved c = record {
  within = let lower = (followed c).0 in omega arith;
  leads = (followed c).1 ∙ c.loop-frame.invariant.leads;
  short = c.in_ok-place.ensures.short;
}

pub indexed-requires-clause-index : goal.indexed-requires-clause-index
indexed-requires-clause-index c = c.loop-frame.invariant.short.element

pub returns-in_default : goal.returns-in_default
returns-in_default c = (
  c.loop-frame.invariant.within,
  sym c.loop-frame.invariant.leads
      ∙ led-here c.args.self.now (shown c.loop-frame.place) (sym (c.in_default.ensures.link ∙ ap link_of c.content-content.ensures)),
  c.content-content.ensures,
  c.loop-frame.invariant.short,
)
