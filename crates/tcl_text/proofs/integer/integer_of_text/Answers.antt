use Rattle.std.proofs.Common.{◌∙◌, Some, ap, rules, sym}
use Rattle.std.specs.Int.{w64}
use Rattle.std.specs.Prelude.{FitsSigned}
use Rattle.std.proofs.lemmas.Int.{to_z-of_z}
use Rattle.tcl_text.proofs.WrittenIntegers.{written_integer}
use Rattle.tcl_text.proofs.integer.integer_of_text.Goals as goal

pub returns-in-Some : goal.returns-in-Some
returns-in-Some c =
    let fits : FitsSigned w64 c.in-Some.number = search rules in
    ap Some (to_z-of_z w64 c.in-Some.number fits) ∙ sym (written_integer c.args.text.now c.in-Some.number c.in-Some.ensures fits)
