-- It is looked for where the name leads.
use Rattle.std.proofs.Common.{◌∙◌, sym, ap, option_copied}
use Rattle.tcl_vars.specs.Store.{end_of, is_there, is_there_at, has_variable}
use Rattle.tcl_vars.proofs.scopes.Scopes.exists.Goals as goal

pub returns-in-Some : goal.returns-in-Some
unfolding has_variable
returns-in-Some c =
    c.is_there.ensures ∙ ap (λ content. is_there content (option_copied c.in-Some.found.place.element)) c.in-Some.ensures.2
    ∙ sym (ap (λ p. is_there_at c.args.self.now (end_of c.args.self.now p)) (sym c.place_of_text.ensures.place) ∙ ap (is_there_at c.args.self.now) c.in-Some.ensures.1)

pub returns-in-None : goal.returns-in-None
unfolding has_variable
returns-in-None c = sym (ap (λ p. is_there_at c.args.self.now (end_of c.args.self.now p)) (sym c.place_of_text.ensures.place) ∙ ap (is_there_at c.args.self.now) c.in-None.ensures)
