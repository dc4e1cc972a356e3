-- A link is made by the two tests of the definition.
use Rattle.std.proofs.Common.{◌∙◌, sym, ap}
use Rattle.tcl_vars.specs.declared.content.Content.TheVariants.{Link}
use Rattle.tcl_vars.specs.Shown.{shown}
use Rattle.tcl_vars.specs.Store.{is_plain_name, holds_value, variable_place, with_content}
use Rattle.tcl_vars.proofs.MadeLemmas.{with_link-bad, with_link-exists, with_link-ok, with_link-full}
use Rattle.tcl_vars.proofs.LawLemmas.{length-with_link}
use Rattle.tcl_vars.proofs.BelowLemmas.{links_descend}
use Rattle.tcl_vars.proofs.LeadLemmas.{variable_in-with_link}
use Rattle.tcl_vars.proofs.scopes.Scopes.link.Goals as goal

pub returns-then-not-is_plain-clause-refused : goal.returns-then-not-is_plain-clause-refused
returns-then-not-is_plain-clause-refused c = λ _.
    with_link-bad c.args.self.now c.args.frame c.args.name.now c.args.to_frame c.args.to_name.now (sym (c.if-not-is_plain.ensures ∙ ap is_plain_name c.as_str.ensures.bytes))

pub returns-then-holds_value-clause-refused : goal.returns-then-holds_value-clause-refused
returns-then-holds_value-clause-refused c = λ _.
    with_link-exists c.args.self.now c.args.frame c.args.name.now c.args.to_frame c.args.to_name.now (shown c.variable_place-place.result)
    (c.variable_place-place.ensures ∙ ap (variable_place c.args.frame) c.as_str-2.ensures.bytes)
    (sym (c.if-not-is_plain.ensures ∙ ap is_plain_name c.as_str.ensures.bytes))
    (sym (c.if-holds_value.ensures ∙ ap holds_value c.content.ensures))

pub returns-then-branch-clause-ok : goal.returns-then-branch-clause-ok
returns-then-branch-clause-ok c =
    let given = rw c.if-branch.true at c.in_ok-give.ensures.ok in
    with_link-ok c.args.self.now c.args.frame c.args.name.now c.args.to_frame c.args.to_name.now (shown c.variable_place-place.result)
    (c.variable_place-place.ensures ∙ ap (variable_place c.args.frame) c.as_str-2.ensures.bytes)
    (sym (c.if-not-is_plain.ensures ∙ ap is_plain_name c.as_str.ensures.bytes))
    (sym (c.if-holds_value.ensures ∙ ap holds_value c.content.ensures))
    c.give.new.self (given.0 ∙ ap (λ t. with_content c.args.self.now (shown c.variable_place-place.result) (Link c.args.to_frame t)) c.in_ok-copy.ensures.ok) given.1

pub returns-else-branch-clause-refused : goal.returns-else-branch-clause-refused
returns-else-branch-clause-refused c = λ _.
    let given = rw c.if-branch.false at c.in_ok-give.ensures.ok in
    with_link-full c.args.self.now c.args.frame c.args.name.now c.args.to_frame c.args.to_name.now (shown c.variable_place-place.result)
    (c.variable_place-place.ensures ∙ ap (variable_place c.args.frame) c.as_str-2.ensures.bytes)
    (sym (c.if-not-is_plain.ensures ∙ ap is_plain_name c.as_str.ensures.bytes))
    (sym (c.if-holds_value.ensures ∙ ap holds_value c.content.ensures))
    (rw c.in_ok-copy.ensures.ok at given.1)

pub returns-then-branch-clause-levels : goal.returns-then-branch-clause-levels
returns-then-branch-clause-levels c =
    length-with_link c.args.self.now c.give.new.self c.args.frame c.args.name.now c.args.to_frame c.args.to_name.now (returns-then-branch-clause-ok c)

pub returns-then-branch-clause-leads : goal.returns-then-branch-clause-leads
returns-then-branch-clause-leads c =
    variable_in-with_link c.args.self.now (links_descend c.self.view_is c.self.invariant.descending) c.args.frame c.requires.level
    c.args.name.now c.args.to_frame c.args.to_name.now c.requires.earlier c.give.new.self (returns-then-branch-clause-ok c)
