-- What commands come to that may run scripts.
use Rattle.std.proofs.Common.{◌≡◌, ℕ, Bool, false, cond, List, [], ◌∷◌, sym, ap, ◌∙◌}
use Rattle.std.specs.Prelude.{Some, Ok, codes, length}
use Rattle.tcl_vars.specs.Store.{Store}
use Rattle.tcl_interp.specs.Evaluation.{State}
use Rattle.tk_class_commands.specs.declared.outcome.ClassOutcome.TheVariants.{Selects}
use Rattle.tk_class_commands.specs.Table.{ClassCommand}
use Rattle.tk_generate.specs.declared.generate.Generated.{Generated}
use Rattle.tk_generate.specs.declared.given.When.TheVariants.{Now}
use Rattle.tk_generate.specs.Generate.{generate_words}
use Rattle.tk_pack_commands.specs.Targets.{begins_path}
use Rattle.tk_panel.specs.Panel.{Panel}
use Rattle.tk_sequences.specs.declared.event.Event.{Event}
use Rattle.tk_sequences.specs.declared.event.EventKind.TheVariants.{Virtual}
use Rattle.tk_sequences.specs.Event.{bare_event}
use Rattle.tk_tree.specs.declared.window.Window.{Window}
use Rattle.tk_tree.specs.Own.{window_at}
use Rattle.tk_widgets.specs.declared.outcome.WidgetAct.TheVariants.{Script}
use Rattle.tk_commands.specs.Binding.{binding_command_done, binding_command_named, event_told}
use Rattle.tk_commands.specs.Class.{ClassDone, class_command, class_told, outcome_for}
use Rattle.tk_commands.specs.Commands.{command_done, command_named, done_by, panel_command}
use Rattle.tk_commands.specs.declared.commands.TkCommand.TheVariants.{Class}
use Rattle.tk_commands.specs.declared.outcome.Begun.TheVariants.{Dispatches}
use Rattle.tk_commands.specs.declared.outcome.CommandOutcome.TheVariants.{Acts, Begins}
use Rattle.tk_commands.specs.Dispatch.{generated_by_when, dispatched_if, generate_told, generated_told, selection_of}
use Rattle.tk_commands.specs.Moment.{moment_command_done, moment_command_named, update_words}
use Rattle.tk_commands.specs.Outcomes.{Done, done, with_store}
use Rattle.tk_commands.specs.Path.{path_told}
use Rattle.tk_commands.specs.Screen.{screen_command_named}
use Rattle.tk_window_commands.specs.Commands.{window_command_named}
use Rattle.tk_app.specs.Begun.{DestroyBegins, GenerateBegins, IdleTasksAre, InvokeRuns, IsNoAlias, SelectBegins, UpdateBegins, UpdateIs, shown_with}
use Rattle.tk_app.specs.Commands.{Update, command_meaning, meant_by, outcome_meaning, panel_meaning, scripts_in}
use Rattle.tk_app.specs.Dispatch.{with_whole_panel}
use Rattle.tk_app.specs.Seen.{Seen}
use Rattle.tk_app.proofs.ByUpdate.{only_update}

module _ (update : Update) (room : ℕ) (called name : List ℕ) (words : List (List ℕ)) (state : State Seen) (none : IsNoAlias name state) where
  -- a command that no alias serves
  unserved : command_meaning update (scripts_in update room) called name words state ≡ panel_meaning update (scripts_in update room) called (name ∷ words) state
  unserved = ap (λ served. meant_by update served (scripts_in update room) called name words state) none

  -- and what it comes to
  came_to : (came : Done) → panel_command (name ∷ words) state.shows.panel state.store ≡ came
      → command_meaning update (scripts_in update room) called name words state ≡ outcome_meaning update (scripts_in update room) called came.outcome (record (with_whole_panel came.panel state) { store = came.store })
  came_to came is = unserved ∙ ap (λ (c : Done). outcome_meaning update (scripts_in update room) called c.outcome (record (with_whole_panel c.panel state) { store = c.store })) is

pub update_begins : UpdateBegins
unfolding command_named command_done moment_command_done moment_command_named update_words screen_command_named window_command_named
update_begins update room called state none = unserved update room called (codes "update") [] state none

pub update_is : UpdateIs
update_is update meets room other is called state none sound =
    update_begins update room called state none ∙ only_update update meets room (update (scripts_in update room)) (meets room) state sound ∙ sym (only_update update meets room other is state sound)

pub idle_tasks_are : IdleTasksAre
unfolding command_named command_done moment_command_done moment_command_named update_words screen_command_named window_command_named
idle_tasks_are update room called state none = unserved update room called (codes "update") (codes "idletasks" ∷ []) state none

pub destroy_begins : DestroyBegins
unfolding command_named command_done moment_command_done moment_command_named screen_command_named window_command_named
destroy_begins update room called paths state none = unserved update room called (codes "destroy") paths state none

pub invoke_runs : InvokeRuns
invoke_runs update room called name words script panel store state none is = came_to update room called name words state none (done panel store (Acts (Script script))) is

module _ (words : List (List ℕ)) (panel : Panel) (store : Store) (generated : Generated)
    (is : generate_words words panel.input.focus (length panel.queue) panel.moment panel.windowing.tree ≡ Ok generated) (now : generated.when ≡ Now) where
  generates : panel_command (codes "event" ∷ codes "generate" ∷ words) panel store ≡ done panel store (Begins (Dispatches generated.event))
  unfolding command_named command_done binding_command_done binding_command_named event_told generate_told moment_command_named screen_command_named window_command_named
  generates =
      ap (λ given. with_store store (generated_told given panel)) is
      ∙ ap (λ when. with_store store (generated_by_when when generated.event panel)) now

pub generate_begins : GenerateBegins
generate_begins update room called words generated state none is now =
    let panel : Panel = state.shows.panel in
    came_to update room called (codes "event") (codes "generate" ∷ words) state none (done panel state.store (Begins (Dispatches generated.event))) (generates words panel state.store generated is now)

-- ── a selection ──

module _ (name : List ℕ) (command : ClassCommand) (words : List (List ℕ)) (number : ℕ) (window : Window) (panel : Panel) (store : Store)
    (plain : begins_path name ≡ false) (named : command_named name ≡ Some (Class command))
    (selects : (class_command command words panel store).outcome ≡ Selects number)
    (is_there : window_at number (class_command command words panel store).panel.windowing.tree ≡ Some window) where
  abbrev came : ClassDone
  came = class_command command words panel store

  abbrev selected : Event
  selected = bare_event (Virtual (codes "ListboxSelect")) window.number window.path panel.moment

  selection : panel_command (name ∷ words) panel store ≡ done came.panel came.store (Begins (Dispatches selected))
  unfolding command_done class_told
  selection =
      ap (λ (b : Bool). cond b (path_told name words panel store) (done_by (command_named name) words panel store)) plain
      ∙ ap (λ found. done_by found words panel store) named
      ∙ ap (λ outcome. with_store came.store (outcome_for outcome came.panel)) selects
      ∙ ap (λ found. with_store came.store (dispatched_if (selection_of panel.moment found) came.panel)) is_there

pub select_begins : SelectBegins
select_begins update room called name command words number window state none plain named selects is_there =
    let panel : Panel = state.shows.panel in
    let there : ClassDone = class_command command words panel state.store in
    let event : Event = bare_event (Virtual (codes "ListboxSelect")) window.number window.path panel.moment in
    came_to update room called name words state none (done there.panel there.store (Begins (Dispatches event))) (selection name command words number window panel state.store plain named selects is_there)
