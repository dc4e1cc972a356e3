-- An array is made where the name leads.
use Rattle.std.proofs.Common.{◌<◌, ◌∙◌, sym, ap, subst, true, None, Some, option_copied}
use Rattle.tcl_vars.specs.declared.content.Content.TheVariants.{Array}
use Rattle.tcl_vars.specs.Shown.{shown}
use Rattle.tcl_vars.specs.Store.{end_of, array_state, variable_count, with_content}
use Rattle.tcl_vars.proofs.MadeLemmas.{with_array-nowhere, with_array-state, with_array-ok, with_array-full}
use Rattle.tcl_vars.proofs.LawLemmas.{length-with_array}
use Rattle.tcl_vars.proofs.scopes.Scopes.make_array.Goals as goal

pub returns-in_default-clause-refused : goal.returns-in_default-clause-refused
returns-in_default-clause-refused c = λ _.
    with_array-nowhere c.args.self.now c.args.frame c.args.name.now (ap (end_of c.args.self.now) (sym c.place_of_text.ensures.place) ∙ c.in_default.ensures)

pub returns-in-None-clause-refused : goal.returns-in-None-clause-refused
returns-in-None-clause-refused c = λ _.
    with_array-state c.args.self.now c.args.frame c.args.name.now (shown c.in-Some.found.place)
    (ap (end_of c.args.self.now) (sym c.place_of_text.ensures.place) ∙ c.in-Some.ensures.1) None
    (sym (c.in-None.ensures.state ∙ ap (λ content. array_state content (option_copied c.in-Some.found.place.element)) c.in-Some.ensures.2))

pub returns-in-Some-true-clause-ok : goal.returns-in-Some-true-clause-ok
returns-in-Some-true-clause-ok c =
    with_array-state c.args.self.now c.args.frame c.args.name.now (shown c.in-Some.found.place)
    (ap (end_of c.args.self.now) (sym c.place_of_text.ensures.place) ∙ c.in-Some.ensures.1) (Some true)
    (sym (ap Some (sym c.in-Some-true.field-0-test) ∙ c.in-Some-true.ensures.state ∙ ap (λ content. array_state content (option_copied c.in-Some.found.place.element)) c.in-Some.ensures.2))

pub returns-then-branch-clause-ok : goal.returns-then-branch-clause-ok
returns-then-branch-clause-ok c =
    let given = rw c.if-branch.true at c.in_ok-give.ensures.ok in
    let own = c.place.ensures ∙ c.in_ok-end.ensures in
    with_array-ok c.args.self.now c.args.frame c.args.name.now (shown c.in-Some.found.place)
    (ap (end_of c.args.self.now) (sym c.place_of_text.ensures.place) ∙ c.in-Some.ensures.1)
    (sym (ap Some (sym c.in-Some-false.field-0-test) ∙ c.in-Some-false.ensures.state ∙ ap (λ content. array_state content (option_copied c.in-Some.found.place.element)) c.in-Some.ensures.2))
    c.give-2.new.self
    (given.0 ∙ ap (λ p. with_content c.args.self.now p (Array c.new.result)) own ∙ ap (λ t. with_content c.args.self.now (shown c.in-Some.found.place) (Array t)) c.new.ensures)
    given.1

pub returns-clause-refused : goal.returns-clause-refused
returns-clause-refused c = λ _.
    let given = rw c.if-branch.false at c.in_ok-give.ensures.ok in
    let own = c.place.ensures ∙ c.in_ok-end.ensures in
    with_array-full c.args.self.now c.args.frame c.args.name.now (shown c.in-Some.found.place)
    (ap (end_of c.args.self.now) (sym c.place_of_text.ensures.place) ∙ c.in-Some.ensures.1)
    (sym (ap Some (sym c.in-Some-false.field-0-test) ∙ c.in-Some-false.ensures.state ∙ ap (λ content. array_state content (option_copied c.in-Some.found.place.element)) c.in-Some.ensures.2))
    (subst (λ n. 4096 < n)
    (ap (λ p. variable_count (with_content c.args.self.now p (Array c.new.result))) own
    ∙ ap (λ t. variable_count (with_content c.args.self.now (shown c.in-Some.found.place) (Array t))) c.new.ensures) given.1)

pub returns-then-branch-clause-levels : goal.returns-then-branch-clause-levels
returns-then-branch-clause-levels c = length-with_array c.args.self.now c.give-2.new.self c.args.frame c.args.name.now (returns-then-branch-clause-ok c)
