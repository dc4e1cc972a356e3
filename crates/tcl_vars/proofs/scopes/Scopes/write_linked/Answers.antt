-- The text is set where the links end, which is no link.
use Rattle.std.proofs.Common.{◌≡◌, Ok, None, ap, ◌∙◌, subst, le_refl}
use Rattle.tcl_vars.specs.Put.{Sets}
use Rattle.tcl_vars.specs.Shown.{shown}
use Rattle.tcl_vars.specs.Store.{content_at, link_of}
use Rattle.tcl_vars.proofs.BelowLemmas.{links_descend}
use Rattle.tcl_vars.proofs.LinkLemmas.{led-end}
use Rattle.tcl_vars.proofs.StoreLemmas.{with_text_at-led, at_end}
use Rattle.tcl_vars.proofs.LawLemmas.{text_at-with_text_at}
use Rattle.tcl_vars.proofs.scopes.Scopes.write_linked.Goals as goal

pub returns : goal.returns
returns c =
    let own = c.place.ensures ∙ c.in_ok-end-in-Some.ensures in
    let linkless : link_of (content_at c.args.self.now (shown c.in-Some.found.place)) ≡ None
    = led-end c.args.self.now (links_descend c.self.view_is c.self.invariant.descending) c.args.place.frame (shown c.args.place) (shown c.in-Some.found.place) (le_refl _) c.in-Some.ensures.1 in
    let set = with_text_at-led c.args.self.now (shown c.args.place) c.args.value (shown c.in-Some.found.place) (Ok c.put.new.self) c.in-Some.ensures.1
    (subst (λ place. Sets c.args.self.now place c.args.value (Ok c.put.new.self)) own
    (at_end c.args.self.now c.put.new.self (shown c.place.result) c.args.value c.in_ok-put.field-0
    (ap (λ place. link_of (content_at c.args.self.now place)) own ∙ linkless) c.in_ok-put.ensures.ok)) in
    record {
      ok = set;
      refused = tt;
      err = tt;
      read = text_at-with_text_at c.args.self.now (links_descend c.self.view_is c.self.invariant.descending) (shown c.args.place) c.requires.level c.args.value c.put.new.self set;
    }
