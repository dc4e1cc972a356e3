-- Meaning. What the words of a widget's command ask for, and what is told.
use Rattle.std.specs.Prelude.{ℕ, nat_le, if◌then◌else◌, List, [], length, Option, Some, None, Result, Ok, Err}
use Rattle.tcl_text.specs.Answers.{Answer, bounded, limit_text}
use Rattle.tk_widgets.specs.declared.entry.Entry.{Entry}
use Rattle.tk_options.specs.declared.fault.OptionFault.{OptionFault}
use Rattle.tk_options.specs.FaultTexts.{fault_text}
use Rattle.tk_widgets.specs.declared.outcome.WidgetRequest.{WidgetRequest}
use Rattle.tk_widgets.specs.declared.outcome.WidgetRequest.TheVariants.{Done, Wants}
use Rattle.tk_widgets.specs.declared.outcome.WidgetChange.{WidgetChange}
use Rattle.tk_widgets.specs.declared.outcome.WidgetChange.TheVariants.{Edit}
use Rattle.tk_widgets.specs.declared.outcome.WidgetAct.TheVariants as act
use Rattle.tcl_text.specs.Limits.{most_bytes}

-- what a sub-command asks for, or the text of its error
abbrev pub Wanted : Type 0
Wanted = Result WidgetRequest (List ℕ)

-- it changes nothing, and this is its result or its error
abbrev pub told : Answer → Wanted
told (Ok text) = Ok (Done (act.Answer text))
told (Err text) = Err text

-- it changes nothing, and its result is empty
abbrev pub nothing : Wanted
nothing = Ok (Done (act.Answer []))

-- it runs this script, if there is one, and has its result
abbrev pub script : Option (List ℕ) → Wanted
script (Some command) = Ok (Done (act.Script command))
script None = nothing

-- it wants this change, and its result is empty
abbrev pub change : WidgetChange → Wanted
change what = Ok (Wants what)

-- an entry's edit, which is refused where the text is past the limit
unfoldable pub edit : Entry → Wanted
edit edited = if nat_le (length edited.text) most_bytes then change (Edit edited) else Err limit_text

abbrev pub edit_if : Option Entry → Wanted
edit_if (Some edited) = edit edited
edit_if None = nothing

-- a refusal of options has its text
abbrev pub or_fault : {T : Type 0} → Result T OptionFault → Result T (List ℕ)
or_fault (Ok value) = Ok value
or_fault (Err fault) = Err (bounded (fault_text fault))

-- an error is told too
abbrev pub asked_by : Wanted → WidgetRequest
asked_by (Ok asked) = asked
asked_by (Err text) = Done (act.Fault text)
