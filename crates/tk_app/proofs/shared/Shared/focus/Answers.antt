use Rattle.std.proofs.Common.{ap, arith, ◌∙◌}
use Rattle.std.proofs.lemmas.Bool.Decides.{nat_tests}
use Rattle.std.specs.Option.{option_copied}
use Rattle.tk_app.specs.Inspection.{focus_of}
use Rattle.tk_app.proofs.Slots.{seen_nowhere, seen_there}
use Rattle.tk_app.proofs.shared.Shared.focus.Goals as goal

pub returns-in_err-_runner : goal.returns-in_err-_runner
returns-in_err-_runner g c = ap option_copied c.from_residual.ensures ∙ seen_nowhere _ _ c.self.view_is focus_of c.deref.ensures.value (grind (arith, nat_tests))

pub returns : goal.returns
returns g c = c.focus.ensures ∙ seen_there _ _ c.self.view_is focus_of c.deref.ensures.value (grind (arith, nat_tests)) c.in_ok-_runner.ensures.lookup.1
