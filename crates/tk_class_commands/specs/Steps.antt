-- Steps. What is told where a step gave or refused a window.
use Rattle.std.specs.Prelude.{◌≡◌, ℕ, List, Result}
use Rattle.tcl_text.specs.Answers.{Gives}
use Rattle.tcl_text.specs.declared.commands.answers.Refusal.{Refusal}
use Rattle.tcl_vars.specs.Store.{Store}
use Rattle.tk_class_commands.specs.Commands.{requested}
use Rattle.tk_class_commands.specs.declared.requests.ClassTarget.{ClassTarget}
use Rattle.tk_class_commands.specs.Outcomes.{Done}
use Rattle.tk_inputs.specs.Deliver.{Arrivals}
use Rattle.tk_screen.specs.Own.{Windowing}

-- `requested` of a step that gave or refused a target
abbrev pub IsRequested : ℕ → Result ClassTarget Refusal → Windowing → Arrivals → Store → Done → Type 0
IsRequested moment given own arrivals store there =
    (target : Result ClassTarget (List ℕ)) → Gives given target → there ≡ requested moment target own arrivals store
