-- The frame unsets what its content does.
use Rattle.std.proofs.Common.{sym, ap, ◌∙◌}
use Rattle.std.proofs.lemmas.Result.{err_from_is_err_and}
use Rattle.tcl_vars.specs.Shown.{shown}
use Rattle.tcl_vars.specs.Store.{link_of}
use Rattle.tcl_vars.specs.Table.{with_value}
use Rattle.tcl_vars.proofs.TableLemmas.{with_value-same}
use Rattle.tcl_vars.proofs.UnsetLemmas.{UnsetsText-whole, UnsetsText-element}
use Rattle.tcl_vars.proofs.frame.unset.Goals as goal

pub returns-in_err-count-clause-err : goal.returns-in_err-count-clause-err
returns-in_err-count-clause-err c =
    let p = err_from_is_err_and c.from_residual.result c.from_residual.ensures.1 in
    rw p.1 (ap (λ held. with_value c.args.frame.now c.args.place.variable.now held) c.in_err-count.ensures.err
    ∙ with_value-same c.args.place.variable.now _ c.args.frame.now (sym c.in-Some.ensures.value))

pub returns-in-Whole-clause-ok : goal.returns-in-Whole-clause-ok
returns-in-Whole-clause-ok c =
    UnsetsText-whole c.args.frame.now (shown c.args.place) c.in-Some.content.now (sym c.in-Some.ensures.value) c.in-Whole.count c.unset.new.self
    (rw c.in-Whole.is at c.in_ok-count.ensures.ok) c.remove.new.self c.remove.ensures.rest c.remove.ensures.gone

pub returns-in-Element-clause-ok : goal.returns-in-Element-clause-ok
returns-in-Element-clause-ok c =
    UnsetsText-element c.args.frame.now (shown c.args.place) c.in-Some.content.now (sym c.in-Some.ensures.value) c.unset.new.self (rw c.in-Element.is at c.in_ok-count.ensures.ok)

pub returns-in-Linked-clause-ok : goal.returns-in-Linked-clause-ok
returns-in-Linked-clause-ok c =
    let linked = rw c.in-Linked.is at c.in_ok-count.ensures.ok in (
      (λ none. linked.0 (ap link_of c.in-Some.ensures.value ∙ none)),
      ap (λ held. with_value c.args.frame.now c.args.place.variable.now held) linked.1 ∙ with_value-same c.args.place.variable.now _ c.args.frame.now (sym c.in-Some.ensures.value),
    )
