-- The text is unset where the name leads.
use Rattle.std.proofs.Common.{◌∙◌, sym, ap}
use Rattle.std.proofs.lemmas.Result.{err_from_is_err_and}
use Rattle.tcl_vars.specs.Store.{end_of, without_text_at, without_variable}
use Rattle.tcl_vars.proofs.LawLemmas.{length-without_variable}
use Rattle.tcl_vars.specs.Store.{is_there_at, has_variable}
use Rattle.tcl_vars.proofs.scopes.Scopes.unset.Goals as goal

pub returns-clause-ok : goal.returns-clause-ok
unfolding without_variable
returns-clause-ok c =
    ap (λ p. without_text_at c.args.self.now (end_of c.args.self.now p)) (sym c.place_of_text.ensures.place) ∙ c.in_ok-erase.ensures.ok

pub returns-in_err-erase-clause-refused : goal.returns-in_err-erase-clause-refused
unfolding without_variable
returns-in_err-erase-clause-refused c =
    let p = err_from_is_err_and c.from_residual.result c.from_residual.ensures.1 in
    rw (p.1, p.2) (λ other.
    ap (λ p. without_text_at c.args.self.now (end_of c.args.self.now p)) (sym c.place_of_text.ensures.place) ∙ c.in_err-erase.ensures.refused other)

pub returns-clause-levels : goal.returns-clause-levels
returns-clause-levels c = length-without_variable c.args.self.now c.erase.new.self c.args.frame c.args.name.now (returns-clause-ok c)

pub returns-clause-gone : goal.returns-clause-gone
unfolding has_variable
returns-clause-gone c = ap (λ p. is_there_at c.erase.new.self (end_of c.erase.new.self p)) (sym c.place_of_text.ensures.place) ∙ c.in_ok-erase.ensures.gone
