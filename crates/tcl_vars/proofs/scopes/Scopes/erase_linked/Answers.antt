-- The text is unset where the links end, which is no link.
use Rattle.std.proofs.Common.{◌≡◌, Ok, None, ap, ◌∙◌, subst, le_refl}
use Rattle.tcl_vars.specs.Shown.{shown}
use Rattle.tcl_vars.specs.Store.{content_at, link_of}
use Rattle.tcl_vars.specs.Unset.{Unsets}
use Rattle.tcl_vars.proofs.BelowLemmas.{links_descend}
use Rattle.tcl_vars.proofs.LinkLemmas.{led-end}
use Rattle.tcl_vars.proofs.UnsetLemmas.{without_text_at-led, unset_at_end}
use Rattle.tcl_vars.specs.Unset.{IsGone}
use Rattle.tcl_vars.proofs.LawLemmas.{is_there_at-IsGone, gone_at_end}
use Rattle.tcl_vars.proofs.scopes.Scopes.erase_linked.Goals as goal

pub returns : goal.returns
returns c =
    let own = c.place.ensures ∙ c.in_ok-end-in-Some.ensures in
    let linkless : link_of (content_at c.args.self.now (shown c.in-Some.found.place)) ≡ None
    = led-end c.args.self.now (links_descend c.self.view_is c.self.invariant.descending) c.args.place.frame (shown c.args.place) (shown c.in-Some.found.place) (le_refl _) c.in-Some.ensures.1 in
    let own_linkless = ap (λ place. link_of (content_at c.args.self.now place)) own ∙ linkless in
    record {
      ok = without_text_at-led c.args.self.now (shown c.args.place) (Ok c.take.new.self) (shown c.in-Some.found.place) c.in-Some.ensures.1
          (subst (λ place. Unsets c.args.self.now place (Ok c.take.new.self)) own
          (unset_at_end c.args.self.now c.take.new.self (shown c.place.result) c.in_ok-take.field-0 own_linkless c.in_ok-take.ensures.ok));
      refused = tt;
      err = tt;
      gone = is_there_at-IsGone c.args.self.now c.take.new.self (shown c.args.place) (shown c.in-Some.found.place) c.in-Some.ensures.1
          (subst (IsGone c.args.self.now c.take.new.self) own
          (gone_at_end c.args.self.now c.take.new.self (shown c.place.result) c.in_ok-take.field-0 own_linkless c.in_ok-take.ensures.ok c.in_ok-take.ensures.gone));
    }
