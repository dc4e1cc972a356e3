-- Meaning. An event comes to its window (bind(n)): its scripts are chosen, and its fields put in, before the first of them runs.
use Rattle.std.specs.Prelude.{ℕ, List, [], Option, Some, None, Ok, Err}
use Rattle.tk_dispatch.specs.Dispatch.{Chosen, scripts_for}
use Rattle.tk_patterns.specs.History.{entered}
use Rattle.tk_sequences.specs.declared.event.Event.{Event}
use Rattle.tk_tree.specs.declared.window.Window.{Window}
use Rattle.tk_tree.specs.Own.{window_at}
use Rattle.tk_panel.specs.declared.transcript.Stream.TheVariants.{Err as Errors}
use Rattle.tk_panel.specs.Panel.{Panel}
use Rattle.tk_panel.specs.Reports.{with_line}

-- the scripts of all tags of the window, or the first refusal
abbrev pub scripts_of : Event → Panel → Chosen
scripts_of event panel = scripts_for panel.windowing.tree panel.bindings panel.virtuals event.number event panel.history

-- it enters the history, if it is of a key or a button
abbrev pub with_entered : Event → Panel → Panel
with_entered event panel = record panel { history = entered event panel.history }

-- its scripts are to run; where one was refused none is, and that is told
abbrev pub on_scripts : Event → Panel → Chosen → Panel × List (List ℕ)
on_scripts event panel (Ok scripts) = (with_entered event panel, scripts)
on_scripts event panel (Err text) = (with_entered event (with_line Errors text panel), [])

-- an event of a window that is gone is dropped
abbrev pub chosen_at : Event → Panel → Option Window → Panel × List (List ℕ)
chosen_at event panel None = (panel, [])
chosen_at event panel (Some window) = on_scripts event panel (scripts_of event panel)

-- what is left of the application, and the scripts that are to run
unfoldable pub chosen : Event → Panel → Panel × List (List ℕ)
chosen event panel = chosen_at event panel (window_at event.number panel.windowing.tree)
