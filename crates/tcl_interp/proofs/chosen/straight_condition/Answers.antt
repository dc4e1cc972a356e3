use Rattle.std.proofs.Common.{◌≡◌, Ok, ap, sym, ◌∙◌, rules}
use Rattle.std.proofs.lemmas.Int.{to_z-of_z}
use Rattle.std.specs.Fmt.{signed_decimal}
use Rattle.std.specs.Int.{w64}
use Rattle.std.specs.Prelude.{FitsSigned}
use Rattle.tcl_control.specs.Expressions.{truth_of_text}
use Rattle.tcl_interp.proofs.Decisions.{known_decides}
use Rattle.tcl_interp.proofs.chosen.straight_condition.Goals as goal

pub returns-in-Some-clause-decides : goal.returns-in-Some-clause-decides
returns-in-Some-clause-decides g c =
    let number = c.in-Some.number in
    let fits : FitsSigned w64 number = search rules in
    let truth : truth_of_text (signed_decimal number) ≡ Ok c.holds.result = ap (λ n. truth_of_text (signed_decimal n)) (sym (to_z-of_z w64 number fits)) ∙ c.holds.ensures in
    known_decides g.T.Tasks.outside c.args.room c.args.level c.args.scopes.now c.args.context.now c.args.expr.now c.holds.result c.requires.level (number, c.in-Some.ensures, truth)
