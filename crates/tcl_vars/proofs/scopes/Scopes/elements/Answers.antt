-- They are looked for where the name leads.
use Rattle.std.proofs.Common.{◌∙◌, sym, ap, option_copied}
use Rattle.tcl_vars.specs.Store.{end_of, elements_of, elements_at, elements_in}
use Rattle.tcl_vars.proofs.scopes.Scopes.elements.Goals as goal

pub returns-in-Some : goal.returns-in-Some
unfolding elements_in
returns-in-Some c =
    c.elements_of.ensures ∙ ap (λ content. elements_of content (option_copied c.in-Some.found.place.element)) c.in-Some.ensures.2
    ∙ sym (ap (λ p. elements_at c.args.self.now (end_of c.args.self.now p)) (sym c.place_of_text.ensures.place) ∙ ap (elements_at c.args.self.now) c.in-Some.ensures.1)

pub returns-in-None : goal.returns-in-None
unfolding elements_in
returns-in-None c = sym (ap (λ p. elements_at c.args.self.now (end_of c.args.self.now p)) (sym c.place_of_text.ensures.place) ∙ ap (elements_at c.args.self.now) c.in-None.ensures)
