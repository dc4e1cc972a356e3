use Rattle.std.proofs.Common.{ap, arith, ◌∙◌}
use Rattle.std.proofs.lemmas.Bool.Decides.{nat_tests}
use Rattle.std.specs.Option.{option_copied}
use Rattle.std.specs.Result.{result_ok}
use Rattle.tcl_vars.specs.Store.{variable_in}
use Rattle.tk_app.specs.Inspection.{variable_of}
use Rattle.tk_app.proofs.Slots.{seen_nowhere, seen_there}
use Rattle.tk_app.proofs.shared.Shared.variable.Goals as goal

pub returns-in_err-runner : goal.returns-in_err-runner
returns-in_err-runner g c = ap option_copied c.from_residual.ensures ∙ seen_nowhere _ _ c.self.view_is (variable_of c.args.name.now) c.deref.ensures.value (grind (arith, nat_tests))

pub returns : goal.returns
returns g c = c.variable.ensures ∙ ap (λ store. result_ok (variable_in store 0 c.args.name.now)) c.scopes.ensures ∙ seen_there _ _ c.self.view_is (variable_of c.args.name.now) c.deref.ensures.value (grind (arith, nat_tests)) c.in_ok-runner.ensures.lookup.1
