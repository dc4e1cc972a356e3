-- Meaning. What `command_meaning` comes to of each command that may run scripts, where no alias serves its name: `update`, `destroy`, `event generate`
-- (update(n), destroy(n), event(n)), the class commands that select, and those that invoke.
use Rattle.std.specs.Prelude.{◌≡◌, ℕ, false, List, [], ◌∷◌, length, Some, None, Ok, codes}
use Rattle.tcl_vars.specs.Store.{Store}
use Rattle.tcl_interp.specs.Evaluation.{State, and_then}
use Rattle.tcl_interp.specs.Scripts.{at_global as ends_global, out_of_global}
use Rattle.tk_class_commands.specs.declared.outcome.ClassOutcome.TheVariants.{Selects}
use Rattle.tk_class_commands.specs.Table.{ClassCommand}
use Rattle.tk_generate.specs.declared.generate.Generated.{Generated}
use Rattle.tk_generate.specs.declared.given.When.TheVariants.{Now}
use Rattle.tk_generate.specs.Generate.{generate_words}
use Rattle.tk_pack_commands.specs.Targets.{begins_path}
use Rattle.tk_panel.specs.Panel.{Panel}
use Rattle.tk_sequences.specs.declared.event.EventKind.TheVariants.{Virtual}
use Rattle.tk_sequences.specs.Event.{bare_event}
use Rattle.tk_tree.specs.declared.window.Window.{Window}
use Rattle.tk_tree.specs.Own.{window_at}
use Rattle.tk_widgets.specs.declared.outcome.WidgetAct.TheVariants.{Script}
use Rattle.tk_commands.specs.Class.{ClassDone, class_command}
use Rattle.tk_commands.specs.Commands.{command_named, panel_command}
use Rattle.tk_commands.specs.declared.commands.TkCommand.TheVariants.{Class}
use Rattle.tk_commands.specs.declared.outcome.CommandOutcome.TheVariants.{Acts}
use Rattle.tk_commands.specs.Outcomes.{done}
use Rattle.tk_app.specs.Commands.{Update, command_meaning, scripts_in}
use Rattle.tk_app.specs.Destroy.{destroy_meaning}
use Rattle.tk_app.specs.Dispatch.{Action, global_meaning, dispatch_meaning, with_whole_panel}
use Rattle.tk_app.specs.Items.{idle_tasks_meaning, item_meaning}
use Rattle.tk_app.specs.Seen.{Seen, served_by}
use Rattle.tk_app.specs.Settle.{IsSoundIn, IsUpdate}

abbrev pub IsNoAlias : List ℕ → State Seen → Type 0
IsNoAlias name state = served_by name state.shows.serves ≡ None

-- `update` is what it is taken for: by its equation it is *Settle* without the test for the main window
abbrev pub UpdateBegins : Type 0
UpdateBegins = (update : Update) (room : ℕ) (called : List ℕ) (state : State Seen) → IsNoAlias (codes "update") state
    → command_meaning update (scripts_in update room) called (codes "update") [] state ≡ update (scripts_in update room) state

-- So it is whatever meets that equation in its room: the first item that exists, and that again.
abbrev pub UpdateIs : Type 0
UpdateIs = (update : Update) → IsUpdate update → (room : ℕ) (other : Action)
    → ((state : State Seen) → IsSoundIn state → other state ≡ item_meaning (scripts_in update room) other state)
    → (called : List ℕ) (state : State Seen) → IsNoAlias (codes "update") state → IsSoundIn state
    → command_meaning update (scripts_in update room) called (codes "update") [] state ≡ other state

-- `update idletasks` is a layout, a round of the idle scripts that wait then, and a layout.
abbrev pub IdleTasksAre : Type 0
IdleTasksAre = (update : Update) (room : ℕ) (called : List ℕ) (state : State Seen) → IsNoAlias (codes "update") state
    → command_meaning update (scripts_in update room) called (codes "update") (codes "idletasks" ∷ []) state ≡ idle_tasks_meaning (scripts_in update room) state

-- `destroy` is *Destroy* of its paths
abbrev pub DestroyBegins : Type 0
DestroyBegins = (update : Update) (room : ℕ) (called : List ℕ) (paths : List (List ℕ)) (state : State Seen) → IsNoAlias (codes "destroy") state
    → command_meaning update (scripts_in update room) called (codes "destroy") paths state ≡ destroy_meaning (scripts_in update room) paths state

-- `event generate` of an event that comes at once is *Dispatch* of it
abbrev pub GenerateBegins : Type 0
GenerateBegins = (update : Update) (room : ℕ) (called : List ℕ) (words : List (List ℕ)) (generated : Generated) (state : State Seen) → IsNoAlias (codes "event") state
    → (let panel : Panel = state.shows.panel in generate_words words panel.input.focus (length panel.queue) panel.moment panel.windowing.tree ≡ Ok generated)
    → generated.when ≡ Now
    → command_meaning update (scripts_in update room) called (codes "event") (codes "generate" ∷ words) state ≡ dispatch_meaning (scripts_in update room) generated.event state

-- ── class commands, and widgets' own ──

-- with other variables and another panel
abbrev pub shown_with : Panel → Store → State Seen → State Seen
shown_with panel store state = record (with_whole_panel panel state) { store = store }

-- A class command that makes another selection (`tk::ListboxDown`, `tk::ListboxDrag`, `tk::ListboxMove`, `tk::ListboxSpace`) is *Dispatch* of the event
-- <<ListboxSelect>> of its listbox, where that is there still.
abbrev pub SelectBegins : Type 0
SelectBegins = (update : Update) (room : ℕ) (called name : List ℕ) (command : ClassCommand) (words : List (List ℕ)) (number : ℕ) (window : Window) (state : State Seen)
    → IsNoAlias name state → begins_path name ≡ false → command_named name ≡ Some (Class command)
    → (let there : ClassDone = class_command command words state.shows.panel state.store in
    there.outcome ≡ Selects number → window_at number there.panel.windowing.tree ≡ Some window
    → command_meaning update (scripts_in update room) called name words state
    ≡ dispatch_meaning (scripts_in update room) (bare_event (Virtual (codes "ListboxSelect")) window.number window.path state.shows.panel.moment)
    (shown_with there.panel there.store state))

-- A command that comes to a script (`invoke`, `tk::ButtonInvoke`, `tk::ButtonUp`) runs it at global level, and ends as it does.
abbrev pub InvokeRuns : Type 0
InvokeRuns = (update : Update) (room : ℕ) (called name : List ℕ) (words : List (List ℕ)) (script : List ℕ) (panel : Panel) (store : Store) (state : State Seen)
    → IsNoAlias name state → panel_command (name ∷ words) state.shows.panel state.store ≡ done panel store (Acts (Script script))
    → command_meaning update (scripts_in update room) called name words state
    ≡ and_then (global_meaning (scripts_in update room) script (shown_with panel store state)) (λ left code text. ends_global left (out_of_global code) text)
