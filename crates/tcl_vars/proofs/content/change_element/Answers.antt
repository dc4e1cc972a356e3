-- The element is the one at its index.
use Rattle.std.proofs.Common.{◌≡◌, Some, refl, sym, ap, ◌∙◌, arith, ok_or}
use Rattle.tcl_text.specs.declared.fault.ReadFault.TheVariants.{NoElement}
use Rattle.std.proofs.lemmas.Result.{err_from_is_err_and}
use Rattle.tcl_vars.specs.Change.{edited_by}
use Rattle.tcl_vars.specs.Table.{value_at, with_value}
use Rattle.tcl_vars.proofs.TableLemmas.{with_value-same, length-with_value-known}
use Rattle.tcl_vars.proofs.content.change_element.Goals as goal

pub returns-in_err-change_text-in-Some-clause-err : goal.returns-in_err-change_text-in-Some-clause-err
returns-in_err-change_text-in-Some-clause-err c =
    let p = err_from_is_err_and c.from_residual.result c.from_residual.ensures.1 in
    rw p.1 (ap (λ v. with_value c.args.elements.now c.args.index.now v) c.in_err-change_text-in-Some.ensures.err
    ∙ with_value-same c.args.index.now c.in-Some.held.now c.args.elements.now (sym c.in-Some.ensures.value))

pub returns-in_ok-change_text-in-Some-clause-ok : goal.returns-in_ok-change_text-in-Some-clause-ok
returns-in_ok-change_text-in-Some-clause-ok c =
    let known : value_at c.args.elements.now c.args.index.now ≡ Some c.in-Some.held.now = sym c.in-Some.ensures.value in (
      c.change_text.new.text,
      ap (λ o. edited_by c.args.edit (ok_or o NoElement)) known ∙ c.in_ok-change_text-in-Some.ensures.ok,
      refl,
      omega (arith, length-with_value-known c.args.index.now c.change_text.new.text c.args.elements.now c.in-Some.held.now known),
    )
