use Rattle.tk_app.proofs.ByEquations.{commands_are_called, scripts_are_run}
use Rattle.tk_app.proofs.ByUpdate.{one_update, scripts_take_no_steps}
use Rattle.tk_app.proofs.laws.scripts_by_equations.Goals as goal

pub returns : goal.returns
returns c = record { commands = commands_are_called; scripts = scripts_are_run; update = one_update; steps = scripts_take_no_steps }
