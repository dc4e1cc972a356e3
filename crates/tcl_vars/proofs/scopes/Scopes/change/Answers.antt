-- The text is changed where the name leads.
use Rattle.std.proofs.Common.{◌∙◌, sym, ap, arith}
use Rattle.std.proofs.lemmas.Result.{err_from_is_err_and}
use Rattle.tcl_vars.specs.Change.{edited_by}
use Rattle.tcl_vars.specs.Store.{end_of, text_at, variable_in, with_text_at, with_variable}
use Rattle.tcl_vars.specs.Shown.{shown}
use Rattle.tcl_vars.proofs.BelowLemmas.{links_descend}
use Rattle.tcl_vars.proofs.LawLemmas.{length-with_variable, text_at-with_text_at}
use Rattle.tcl_vars.proofs.scopes.Scopes.change.Goals as goal

pub returns-in_err-change_at-clause-refused : goal.returns-in_err-change_at-clause-refused
unfolding variable_in
returns-in_err-change_at-clause-refused c =
    let p = err_from_is_err_and c.from_residual.result c.from_residual.ensures.1 in
    rw (p.1, p.2) (λ other.
    ap (λ p. edited_by c.args.edit (text_at c.args.self.now (end_of c.args.self.now p))) (sym c.place_of_text.ensures.place) ∙ c.in_err-change_at.ensures.refused other)

pub returns-clause-ok : goal.returns-clause-ok
unfolding variable_in with_variable
returns-clause-ok c =
    let h = c.in_ok-change_at.ensures.ok in record {
      value = h.value;
      changed = ap (λ p. edited_by c.args.edit (text_at c.args.self.now (end_of c.args.self.now p))) (sym c.place_of_text.ensures.place) ∙ h.changed;
      set = ap (λ p. with_text_at c.args.self.now (end_of c.args.self.now p) h.value) (sym c.place_of_text.ensures.place) ∙ h.set;
      read = ap (λ p. text_at c.change_at.new.self (end_of c.change_at.new.self p)) (sym c.place_of_text.ensures.place)
          ∙ text_at-with_text_at c.args.self.now (links_descend c.self.view_is c.self.invariant.descending) (shown c.place_of_text.result)
          (omega (arith, c.place_of_text.ensures.level)) h.value c.change_at.new.self h.set;
    }

pub returns-clause-levels : goal.returns-clause-levels
returns-clause-levels c = length-with_variable c.args.self.now c.change_at.new.self c.args.frame c.args.name.now (returns-clause-ok c).value (returns-clause-ok c).set
