-- Meaning. What the commands do that class bindings run.
use Rattle.std.specs.Prelude.{ℕ, List, Result, Ok, Err}
use Rattle.tcl_vars.specs.Store.{Store}
use Rattle.tk_class_commands.specs.Buttons as buttons
use Rattle.tk_class_commands.specs.declared.requests.ClassRequest.{ClassRequest}
use Rattle.tk_class_commands.specs.declared.requests.ClassRequest.TheVariants.{Button, Entry, Listbox}
use Rattle.tk_class_commands.specs.declared.requests.ClassTarget.{ClassTarget}
use Rattle.tk_class_commands.specs.Entries.{entry_asked}
use Rattle.tk_class_commands.specs.Listboxes as listboxes
use Rattle.tk_class_commands.specs.Outcomes.{Done, Told, done, error}
use Rattle.tk_class_commands.specs.Requests.{target_in}
use Rattle.tk_class_commands.specs.Table.{ClassCommand}
use Rattle.tk_inputs.specs.declared.inputs.Input.{Input}
use Rattle.tk_inputs.specs.Deliver.{Arrivals}
use Rattle.tk_screen.specs.Own.{Windowing}

-- commands of buttons have to do with no variables and no events
abbrev pub button_done : Arrivals → Store → Told Input → Done
button_done arrivals store there = done there.own (record arrivals { input = there.kept }) store there.outcome

-- commands of listboxes have to do with no variables
abbrev pub listbox_done : Store → Told Arrivals → Done
listbox_done store there = done there.own there.kept store there.outcome

-- what is asked of the widget with a number, at a moment
abbrev pub asked : ℕ → ℕ → ClassRequest → Windowing → Arrivals → Store → Done
asked number moment (Button request) own arrivals store = button_done arrivals store (buttons.act request number own arrivals.input)
asked number moment (Entry request) own arrivals store = entry_asked number moment request own arrivals store
asked number moment (Listbox request) own arrivals store = listbox_done store (listboxes.listbox_asked number moment request own arrivals)

abbrev pub requested : ℕ → Result ClassTarget (List ℕ) → Windowing → Arrivals → Store → Done
requested moment (Ok target) own arrivals store = asked target.number moment target.request own arrivals store
requested moment (Err text) own arrivals store = done own arrivals store (error text)

-- the words behind the command's name, at a moment
unfoldable pub class_command_done : ClassCommand → List (List ℕ) → ℕ → Windowing → Arrivals → Store → Done
class_command_done command words moment own arrivals store = requested moment (target_in command words own) own arrivals store
