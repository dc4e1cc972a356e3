-- The elements go where the name leads.
use Rattle.std.proofs.Common.{◌∙◌, sym, ap, length, length-set, set, option_copied}
use Rattle.tcl_vars.specs.Shown.{shown}
use Rattle.tcl_vars.specs.Store.{content_at, elements_of, end_of, frame_at}
use Rattle.tcl_vars.specs.Unset.{frame_but}
use Rattle.tcl_vars.proofs.UnsetLemmas.{without_elements-nowhere, without_elements-none, without_elements-some}
use Rattle.tcl_vars.proofs.scopes.Scopes.unset_elements.Goals as goal

pub returns-in_default-clause-ok : goal.returns-in_default-clause-ok
returns-in_default-clause-ok c =
    without_elements-nowhere c.args.self.now c.args.frame c.args.name.now c.args.pattern.now (ap (end_of c.args.self.now) (sym c.place_of_text.ensures.place) ∙ c.in_default.ensures)

pub returns-in_default-elements_of-clause-ok : goal.returns-in_default-elements_of-clause-ok
returns-in_default-elements_of-clause-ok c =
    let leads = ap (end_of c.args.self.now) (sym c.place_of_text.ensures.place) ∙ c.in-Some.ensures.1 in
    let held = ap (λ content. elements_of content (option_copied c.in-Some.found.place.element)) c.in-Some.ensures.2 in
    without_elements-none c.args.self.now c.args.frame c.args.name.now c.args.pattern.now (shown c.in-Some.found.place) leads (sym (c.in_default-elements_of.ensures ∙ held))

pub returns-clause-ok : goal.returns-clause-ok
returns-clause-ok c =
    let old = c.args.self.now in
    let leads = ap (end_of old) (sym c.place_of_text.ensures.place) ∙ c.in-Some.ensures.1 in
    let held = ap (λ content. elements_of content (option_copied c.in-Some.found.place.element)) c.in-Some.ensures.2 in
    let own = c.place.ensures ∙ c.in_ok-end.ensures in
    c.leave_out.ensures
    ∙ ap (λ place. set old place.frame (frame_but c.args.pattern.now place.variable (content_at old place) (frame_at old place.frame))) own
    ∙ without_elements-some old c.args.frame c.args.name.now c.args.pattern.now (shown c.in-Some.found.place) leads _ (sym (c.in-Some-elements_of.ensures ∙ held))

pub returns-clause-levels : goal.returns-clause-levels
returns-clause-levels c = ap length c.leave_out.ensures ∙ length-set c.args.self.now c.place.result.frame _
