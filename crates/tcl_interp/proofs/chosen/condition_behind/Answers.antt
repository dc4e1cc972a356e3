use Rattle.std.proofs.Common.{◌≡◌, [], ◌∷◌, Some, Ok, ap, sym, subst, ◌∙◌, rules}
use Rattle.std.proofs.lemmas.Int.{to_z-of_z}
use Rattle.std.specs.Fmt.{signed_decimal}
use Rattle.std.specs.Int.{w64}
use Rattle.std.specs.Prelude.{ℤ, FitsSigned}
use Rattle.tcl_text.specs.Readings.{integer_of}
use Rattle.tcl_expr.specs.declared.step.Step.TheVariants as step
use Rattle.tcl_expr.specs.Straight.{straight}
use Rattle.tcl_vars.specs.Store.{number_in}
use Rattle.tcl_control.specs.Expressions.{truth_of_text}
use Rattle.tcl_interp.specs.Simple.{GivesScript}
use Rattle.tcl_interp.proofs.Decisions.{behind_decides}
use Rattle.tcl_interp.proofs.chosen.condition_behind.Goals as goal

pub returns-in-Some-integer_behind-clause-decides : goal.returns-in-Some-integer_behind-clause-decides
returns-in-Some-integer_behind-clause-decides g c =
    let outside = g.T.Tasks.outside in
    let script = c.in-Some.script.now in
    let found = c.in-Some-found.found in
    let number = c.in-Some-integer_behind.number in
    let fits : FitsSigned w64 number = search rules in
    let truth : truth_of_text (signed_decimal number) ≡ Ok c.holds.result = ap (λ n. truth_of_text (signed_decimal n)) (sym (to_z-of_z w64 number fits)) ∙ c.holds.ensures in
    let gives : GivesScript outside c.args.room script c.args.scopes.now c.args.context.now found.steps found.text = rw c.in-Some-found.is at c.in_ok-found.ensures.gives in
    let first = c.in-Ok.first in
    let small : FitsSigned w64 first = search rules in
    let comes : straight (number_in c.args.scopes.now c.args.level) 0 c.in-Some.ensures.0 (first ∷ []) ≡ Some number =
    subst (λ (i : ℤ). straight (number_in c.args.scopes.now c.args.level) 0 c.in-Some.ensures.0 (i ∷ []) ≡ Some number) (to_z-of_z w64 first small)
    (c.in-Some-integer_behind.ensures (step.Command script) c.in-Some.ensures.0 c.in-Some.ensures.1) in
    let is : integer_of found.text ≡ Some first = sym c.in-Ok.ensures.exact in
    behind_decides outside c.args.room c.args.level c.args.scopes.now c.args.context.now c.args.expr.now script found.text c.in-Some.ensures.0 first number found.steps c.holds.result
    c.requires.level c.in-Some.ensures.1 gives is comes truth
