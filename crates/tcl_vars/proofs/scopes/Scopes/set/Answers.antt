-- The text is set where the name leads.
use Rattle.std.proofs.Common.{◌∙◌, sym, ap}
use Rattle.std.proofs.lemmas.Result.{err_from_is_err_and}
use Rattle.tcl_vars.specs.Store.{end_of, with_text_at, with_variable}
use Rattle.tcl_vars.specs.Store.{text_at, variable_in}
use Rattle.tcl_vars.proofs.LawLemmas.{length-with_variable}
use Rattle.tcl_vars.proofs.scopes.Scopes.set.Goals as goal

pub returns-clause-ok : goal.returns-clause-ok
unfolding with_variable
returns-clause-ok c =
    ap (λ p. with_text_at c.args.self.now (end_of c.args.self.now p) c.args.value) (sym c.place_of_text.ensures.place) ∙ c.in_ok-write.ensures.ok

pub returns-in_err-write-clause-refused : goal.returns-in_err-write-clause-refused
unfolding with_variable
returns-in_err-write-clause-refused c =
    let p = err_from_is_err_and c.from_residual.result c.from_residual.ensures.1 in
    rw (p.1, p.2) (λ other.
    ap (λ p. with_text_at c.args.self.now (end_of c.args.self.now p) c.args.value) (sym c.place_of_text.ensures.place) ∙ c.in_err-write.ensures.refused other)

pub returns-clause-read : goal.returns-clause-read
unfolding variable_in
returns-clause-read c = ap (λ p. text_at c.write.new.self (end_of c.write.new.self p)) (sym c.place_of_text.ensures.place) ∙ c.in_ok-write.ensures.read

pub returns-clause-levels : goal.returns-clause-levels
returns-clause-levels c = length-with_variable c.args.self.now c.write.new.self c.args.frame c.args.name.now c.args.value (returns-clause-ok c)
