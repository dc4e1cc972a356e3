-- The text is set where the element leads.
use Rattle.std.proofs.Common.{◌∙◌, sym, ap, option_and_then}
use Rattle.std.proofs.lemmas.Result.{err_from_is_err_and}
use Rattle.tcl_vars.specs.Store.{end_of, with_text_at, with_element}
use Rattle.tcl_vars.specs.Store.{text_at, element_in}
use Rattle.tcl_vars.proofs.LawLemmas.{length-with_element}
use Rattle.tcl_vars.proofs.scopes.Scopes.set_element.Goals as goal

pub returns-in_ok-write-in-Some-clause-ok : goal.returns-in_ok-write-in-Some-clause-ok
unfolding with_element
returns-in_ok-write-in-Some-clause-ok c =
    ap (λ o. with_text_at c.args.self.now (option_and_then (end_of c.args.self.now) o) c.args.value) (sym c.in-Some.ensures.place)
    ∙ c.in_ok-write-in-Some.ensures.ok

pub returns-in_err-write-in-Some-clause-refused : goal.returns-in_err-write-in-Some-clause-refused
unfolding with_element
returns-in_err-write-in-Some-clause-refused c =
    let p = err_from_is_err_and c.from_residual.result c.from_residual.ensures.1 in
    rw (p.1, p.2) (λ other.
    ap (λ o. with_text_at c.args.self.now (option_and_then (end_of c.args.self.now) o) c.args.value) (sym c.in-Some.ensures.place)
    ∙ c.in_err-write-in-Some.ensures.refused other)

pub returns-in-None-clause-refused : goal.returns-in-None-clause-refused
unfolding with_element
returns-in-None-clause-refused c = λ _.
    ap (λ o. with_text_at c.args.self.now (option_and_then (end_of c.args.self.now) o) c.args.value) (sym c.in-None.ensures.place)

pub returns-in_ok-write-in-Some-clause-read : goal.returns-in_ok-write-in-Some-clause-read
unfolding element_in
returns-in_ok-write-in-Some-clause-read c =
    ap (λ o. text_at c.write.new.self (option_and_then (end_of c.write.new.self) o)) (sym c.in-Some.ensures.place) ∙ c.in_ok-write-in-Some.ensures.read

pub returns-in_ok-write-in-Some-clause-levels : goal.returns-in_ok-write-in-Some-clause-levels
returns-in_ok-write-in-Some-clause-levels c =
    length-with_element c.args.self.now c.write.new.self c.args.frame c.args.name.now c.args.index.now c.args.value (returns-in_ok-write-in-Some-clause-ok c)
