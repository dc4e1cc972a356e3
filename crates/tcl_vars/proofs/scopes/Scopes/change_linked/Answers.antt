-- The text is changed where the links end, which is no link.
use Rattle.std.proofs.Common.{◌≡◌, None, ap, ◌∙◌, subst, le_refl}
use Rattle.tcl_vars.specs.Changing.{ChangesHere}
use Rattle.tcl_vars.specs.Shown.{shown}
use Rattle.tcl_vars.specs.Store.{content_at, link_of}
use Rattle.tcl_vars.proofs.BelowLemmas.{links_descend}
use Rattle.tcl_vars.proofs.ChangeLemmas.{ChangesAt-led, ChangesHere-linkless}
use Rattle.tcl_vars.proofs.LinkLemmas.{led-end}
use Rattle.tcl_vars.proofs.scopes.Scopes.change_linked.Goals as goal

pub returns : goal.returns
returns c =
    let own = c.place.ensures ∙ c.in_ok-end-in-Some.ensures in
    let linkless : link_of (content_at c.args.self.now (shown c.in-Some.found.place)) ≡ None
    = led-end c.args.self.now (links_descend c.self.view_is c.self.invariant.descending) c.args.place.frame (shown c.args.place) (shown c.in-Some.found.place) (le_refl _) c.in-Some.ensures.1 in
    record {
      ok = ChangesAt-led c.args.self.now (shown c.args.place) c.args.edit (shown c.in-Some.found.place) c.change_here.new.self c.in-Some.ensures.1
          (subst (λ place. ChangesHere c.args.self.now place c.args.edit c.change_here.new.self) own
          (ChangesHere-linkless c.args.self.now c.change_here.new.self (shown c.place.result) c.args.edit c.in_ok-change_here.field-0
          (ap (λ place. link_of (content_at c.args.self.now place)) own ∙ linkless) c.in_ok-change_here.ensures.ok));
      refused = tt;
      err = tt;
    }
