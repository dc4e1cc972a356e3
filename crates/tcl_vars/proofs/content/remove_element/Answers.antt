-- An index that isn't there leaves the elements as they are.
use Rattle.std.proofs.Common.{◌+◌, ◌∙◌, sym, ap, subst, length, IsSome, refl}
use Rattle.tcl_vars.proofs.TableLemmas.{without-absent, length-without}
use Rattle.tcl_vars.proofs.content.remove_element.Goals as goal

pub returns-in_default-clause-err : goal.returns-in_default-clause-err
returns-in_default-clause-err c =
    c.remove.ensures.rest ∙ without-absent c.args.elements.now c.args.index.now (sym c.remove.ensures.value ∙ c.in_default.is)

pub returns-clause-ok : goal.returns-clause-ok
returns-clause-ok c = (
  c.remove.ensures.rest,
  ap (λ t. length t + 1) c.remove.ensures.rest
      ∙ length-without c.args.elements.now c.args.index.now (subst IsSome (sym c.in-Some.is ∙ c.remove.ensures.value) refl),
)
