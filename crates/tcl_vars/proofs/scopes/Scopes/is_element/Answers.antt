-- It is looked for where the name leads.
use Rattle.std.proofs.Common.{◌∙◌, sym, ap}
use Rattle.tcl_vars.specs.Store.{end_of, is_element_at, is_element_in}
use Rattle.tcl_vars.proofs.scopes.Scopes.is_element.Goals as goal

pub returns-in-Some : goal.returns-in-Some
unfolding is_element_in
returns-in-Some c =
    c.is_given.ensures
    ∙ sym (ap (λ p. is_element_at (end_of c.args.self.now p)) (sym c.place_of_text.ensures.place) ∙ ap is_element_at c.in-Some.ensures.1)

pub returns-in-None : goal.returns-in-None
unfolding is_element_in
returns-in-None c = sym (ap (λ p. is_element_at (end_of c.args.self.now p)) (sym c.place_of_text.ensures.place) ∙ ap is_element_at c.in-None.ensures)
