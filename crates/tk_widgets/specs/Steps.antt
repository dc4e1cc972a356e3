-- Steps. What a widget's command asks for where a step gave or refused it.
use Rattle.std.specs.Prelude.{◌≡◌, Result}
use Rattle.tcl_text.specs.Answers.{Gives}
use Rattle.tcl_text.specs.declared.commands.answers.Refusal.{Refusal}
use Rattle.tk_widgets.specs.declared.outcome.WidgetRequest.{WidgetRequest}
use Rattle.tk_widgets.specs.Outcomes.{Wanted, asked_by}

-- what is told of a step that gave or refused what the definition says
abbrev pub IsAskedBy : Result WidgetRequest Refusal → WidgetRequest → Type 0
IsAskedBy given asked = (wanted : Wanted) → Gives given wanted → asked ≡ asked_by wanted
