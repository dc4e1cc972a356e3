-- What the commands of an application do to its windows, and to what is packed.
use Rattle.std.proofs.Common.{◌≡◌, ℕ, Bool, true, false, cond, List, [], ◌∷◌, Option, Some, None, refl, sym, ap, subst}
use Rattle.std.specs.Prelude.{Result, Ok, Err, codes, length, option_and_then}
use Rattle.std.specs.Option.{option_map_or}
use Rattle.std.specs.Str.{bytes_eq}
use Rattle.tcl_text.specs.Answers.{items_in}
use Rattle.tcl_vars.specs.Store.{Store}
use Rattle.tk_base.specs.declared.kind.Kind.{Kind}
use Rattle.tk_class_commands.specs.Buttons as buttons
use Rattle.tk_class_commands.specs.Buttons.{act, is_it, let_go, pressed_with, relief_settings, relief_to_keep, restored, with_relief}
use Rattle.tk_class_commands.specs.Changes.{with_change}
use Rattle.tk_class_commands.specs.Commands.{asked, class_command_done, requested}
use Rattle.tk_class_commands.specs.declared.buttons.ButtonRequest.{ButtonRequest}
use Rattle.tk_class_commands.specs.declared.buttons.ButtonRequest.TheVariants.{Enter, Leave, Press, Release, Invoke}
use Rattle.tk_class_commands.specs.declared.entries.CursorMove.{CursorMove}
use Rattle.tk_class_commands.specs.declared.entries.CursorMove.TheVariants.{By, To}
use Rattle.tk_class_commands.specs.declared.entries.EntryRequest.{EntryRequest}
use Rattle.tk_class_commands.specs.declared.entries.EntryRequest.TheVariants as entry_request
use Rattle.tk_class_commands.specs.declared.listboxes.Effect.{Effect}
use Rattle.tk_class_commands.specs.declared.listboxes.ListboxRequest.{ListboxRequest}
use Rattle.tk_class_commands.specs.declared.outcome.ClassOutcome.{ClassOutcome}
use Rattle.tk_class_commands.specs.declared.outcome.ClassOutcome.TheVariants as class
use Rattle.tk_class_commands.specs.declared.requests.ClassRequest.{ClassRequest}
use Rattle.tk_class_commands.specs.declared.requests.ClassRequest.TheVariants.{Button, Entry, Listbox}
use Rattle.tk_class_commands.specs.declared.requests.ClassTarget.{ClassTarget}
use Rattle.tk_class_commands.specs.Entries.{edited, edited_as, entry_asked, is_disabled_at, moved_at, place_of, pointed, with_cursor}
use Rattle.tk_class_commands.specs.Listboxes.{asked_with, effect_at, listbox_asked, with_effect}
use Rattle.tk_class_commands.specs.Outcomes.{nothing}
use Rattle.tk_class_commands.specs.Requests.{target_in}
use Rattle.tk_class_commands.specs.Table.{ClassCommand}
use Rattle.tk_bind_commands.specs.Bindtags.{bindtags_words, with_items, with_list}
use Rattle.tk_generate.specs.declared.generate.Generated.{Generated}
use Rattle.tk_generate.specs.declared.given.When.{When}
use Rattle.tk_generate.specs.declared.given.When.TheVariants.{Now, Tail, Head}
use Rattle.tk_generate.specs.Generate.{generate_words}
use Rattle.tk_inputs.specs.declared.inputs.Input.{Input}
use Rattle.tk_inputs.specs.Deliver.{Arrivals}
use Rattle.tk_widgets.specs.declared.choice.Choice.{Choice}
use Rattle.tk_options.specs.declared.settings.Setting.{Setting}
use Rattle.tk_options.specs.Options.{settings}
use Rattle.tk_options.specs.Rows.{options_of}
use Rattle.tk_panel.specs.Commands.{put_to, puts_words}
use Rattle.tk_panel.specs.Panel.{Panel}
use Rattle.tk_screen.specs.Changes.{changed, changed_after, wrote}
use Rattle.tk_screen.specs.declared.toplevel.Toplevel.{Toplevel}
use Rattle.tk_screen.specs.Layout.{size_of}
use Rattle.tk_screen.specs.Own.{Windowing, with_title}
use Rattle.tk_screen.specs.Shapes.{variable_text}
use Rattle.tk_screen.specs.Widgets.{widget_at}
use Rattle.tk_sequences.specs.declared.event.Event.{Event}
use Rattle.tk_tree.specs.Change.{with_tags}
use Rattle.tk_tree.specs.Create.{refusal}
use Rattle.tk_tree.specs.declared.fault.WindowFault.{WindowFault}
use Rattle.tk_tree.specs.declared.fault.WindowFault.TheVariants.{BadPath}
use Rattle.tk_tree.specs.declared.window.Window.{Window}
use Rattle.tk_tree.specs.Own.{at_path, window_at}
use Rattle.tk_widgets.specs.Commands.{edit_asked, variable_write, wanted}
use Rattle.tk_widgets.specs.declared.entry_commands.EntryEdit.{EntryEdit}
use Rattle.tk_widgets.specs.declared.outcome.WidgetChange.{WidgetChange}
use Rattle.tk_widgets.specs.declared.outcome.WidgetChange.TheVariants.{Configure}
use Rattle.tk_widgets.specs.declared.outcome.WidgetRequest.{WidgetRequest}
use Rattle.tk_widgets.specs.declared.outcome.WidgetRequest.TheVariants.{Done as Told, Wants}
use Rattle.tk_widgets.specs.declared.widget.Widget.{Widget}
use Rattle.tk_widgets.specs.Outcomes.{asked_by}
use Rattle.tk_window_commands.specs.Commands.{window_command_done}
use Rattle.tk_window_commands.specs.Create.{configured_new, create_words, made, made_of, or_keeps, path_refusal}
use Rattle.tk_window_commands.specs.declared.commands.WindowCommand.{WindowCommand}
use Rattle.tk_window_commands.specs.declared.commands.WindowCommand.TheVariants.{Make, Winfo, Wm}
use Rattle.tk_window_commands.specs.declared.create.Ready.{Ready}
use Rattle.tk_window_commands.specs.Path.{asked_of, path_words, widget_words}
use Rattle.tk_window_commands.specs.Wm.{is_main, title_set, title_words, wm_words}
use Rattle.tk_commands.specs.Binding.{binding_command_done, event_told}
use Rattle.tk_panel.specs.Deliver.{arrivals_in}
use Rattle.tk_commands.specs.Class.{ClassDone, class_command, class_told, outcome_for}
use Rattle.tk_commands.specs.Commands.{panel_command}
use Rattle.tk_commands.specs.declared.binding.BindingCommand.{BindingCommand}
use Rattle.tk_commands.specs.declared.binding.BindingCommand.TheVariants as binding
use Rattle.tk_commands.specs.declared.commands.TkCommand.TheVariants as command
use Rattle.tk_commands.specs.declared.moment.MomentCommand.{MomentCommand}
use Rattle.tk_commands.specs.declared.moment.MomentCommand.TheVariants as moment_command
use Rattle.tk_commands.specs.declared.screen.ScreenCommand.{ScreenCommand}
use Rattle.tk_commands.specs.declared.screen.ScreenCommand.TheVariants.{Window as OnWindow, Pack}
use Rattle.tk_commands.specs.Dispatch.{generated_by_when, dispatched_if, generate_told, generated_told, selection_of, selection_told}
use Rattle.tk_commands.specs.Moment.{moment_command_done}
use Rattle.tk_commands.specs.Screen.{screen_command_done}
use Rattle.tk_app.proofs.Families.{command_keeps}
use Rattle.tk_app.proofs.Trees.{Acts, HoldsOnScene, Scene, by_screen, scene_of}

-- ── what leaves the windows, and what is packed ──

-- a change of a widget
changed_scene : (number : ℕ) (change : WidgetChange) (own : Windowing) (store : Store) → scene_of (changed number change own store).own ≡ scene_of own
unfolding changed
changed_scene number change own store = by (widget_at number own.widgets) refl
  where
    written : (set : Result Store (List ℕ)) → scene_of (changed_after number change own store set).own ≡ scene_of own
    written (Ok new) = refl
    written (Err text) = refl

    by : (widget : Option Widget) → widget_at number own.widgets ≡ widget → scene_of (changed number change own store).own ≡ scene_of own
    by None is = rw is refl
    by (Some widget) is = rw is (written (wrote (variable_write change widget) store))

-- a window's own command
request_scene : (number : ℕ) (request : WidgetRequest) (own : Windowing) (store : Store) → scene_of (asked_of number request own store).own ≡ scene_of own
request_scene number (Told act) own store = refl
request_scene number (Wants change) own store = changed_scene number change own store

widget_scene : (number : ℕ) (words : List (List ℕ)) (own : Windowing) (store : Store) → scene_of (widget_words number words own store).own ≡ scene_of own
widget_scene number words own store = by (widget_at number own.widgets) refl
  where
    by : (widget : Option Widget) → widget_at number own.widgets ≡ widget → scene_of (widget_words number words own store).own ≡ scene_of own
    by None is = rw is refl
    by (Some widget) is = rw is (request_scene number (asked_by (wanted words (variable_text widget store) widget)) own store)

path_scene : (path : List ℕ) (words : List (List ℕ)) (own : Windowing) (store : Store) → scene_of (path_words path words own store).own ≡ scene_of own
unfolding path_words
path_scene path words own store = by (at_path path own.tree) refl
  where
    by : (window : Option Window) → at_path path own.tree ≡ window → scene_of (path_words path words own store).own ≡ scene_of own
    by None is = rw is refl
    by (Some window) is = rw is (widget_scene window.number words own store)

-- `puts`
puts_screen : (words : List (List ℕ)) (panel : Panel) → (puts_words words panel).0.windowing ≡ panel.windowing
unfolding puts_words
puts_screen [] panel = refl
puts_screen (text ∷ []) panel = refl
puts_screen (channel ∷ text ∷ []) panel = by (bytes_eq channel (codes "stdout")) refl
  where
    by : (b : Bool) → bytes_eq channel (codes "stdout") ≡ b → (put_to channel text panel).0.windowing ≡ panel.windowing
    by true is = rw is refl
    by false is = rw is refl
puts_screen (channel ∷ text ∷ word ∷ words) panel = refl

-- `wm`
titled_size : (title : List ℕ) (own : Windowing) → size_of (with_title title own) ≡ size_of own
titled_size title own = by own.toplevel
  where
    by : (toplevel : Option Toplevel) → size_of (with_title title (record own { toplevel = toplevel })) ≡ size_of (record own { toplevel = toplevel })
    by None = refl
    by (Some toplevel) = refl

title_scene : (path title : List ℕ) (own : Windowing) → scene_of (title_set path title own).own ≡ scene_of own
title_scene path title own = by (is_main path own) refl
  where
    by : (b : Bool) → is_main path own ≡ b → scene_of (title_set path title own).own ≡ scene_of own
    by true is = rw is (ap (λ (size : ℕ × ℕ). (own.tree, (own.packs, size))) (titled_size title own))
    by false is = rw is refl

titles_scene : (words : List (List ℕ)) (own : Windowing) → scene_of (title_words words own).own ≡ scene_of own
titles_scene [] own = refl
titles_scene (path ∷ []) own = refl
titles_scene (path ∷ title ∷ []) own = title_scene path title own
titles_scene (path ∷ title ∷ word ∷ words) own = refl

wm_scene : (words : List (List ℕ)) (own : Windowing) → scene_of (wm_words words own).own ≡ scene_of own
unfolding wm_words
wm_scene [] own = refl
wm_scene (name ∷ words) own = by (bytes_eq name (codes "title")) refl
  where
    by : (b : Bool) → bytes_eq name (codes "title") ≡ b → scene_of (wm_words (name ∷ words) own).own ≡ scene_of own
    by true is = rw is (titles_scene words own)
    by false is = rw is refl

-- ── what the pointer and keys do to widgets ──

relief_scene : (number : ℕ) (relief : List ℕ) (own : Windowing) → scene_of (with_relief number relief own) ≡ scene_of own
relief_scene number relief own = by (option_and_then (relief_settings relief) (widget_at number own.widgets))
  where
    by : (all : Option (List Setting)) → scene_of (option_map_or (λ all. with_change number (Configure all) own) all own) ≡ scene_of own
    by None = refl
    by (Some all) = refl

restored_scene : (number : ℕ) (relief : Option (List ℕ)) (own : Windowing) → scene_of (restored number relief own) ≡ scene_of own
restored_scene number None own = refl
restored_scene number (Some relief) own = relief_scene number relief own

either_scene : (b : Bool) (new own : Windowing) → scene_of new ≡ scene_of own → scene_of (cond b new own) ≡ scene_of own
either_scene true new own same = same
either_scene false new own same = refl

press_scene : (number : ℕ) (own : Windowing) (input : Input) (relief : Option (List ℕ)) → scene_of (pressed_with number own input relief).own ≡ scene_of own
press_scene number own input None = refl
press_scene number own input (Some relief) = relief_scene number (codes "sunken") own

release_scene : (number : ℕ) (own : Windowing) (input : Input) → scene_of (let_go number own input).own ≡ scene_of own
release_scene number own input = by (is_it number input.pressed)
  where
    by : (b : Bool)
        → scene_of (cond b (buttons.told (restored number input.relief own) (record input { pressed = None }) (buttons.invoked_over number input (restored number input.relief own))) (buttons.told own input nothing)).own
        ≡ scene_of own
    by true = restored_scene number input.relief own
    by false = refl

button_scene : (request : ButtonRequest) (number : ℕ) (own : Windowing) (input : Input) → scene_of (act request number own input).own ≡ scene_of own
unfolding act
button_scene Enter number own input = either_scene (is_it number input.pressed) (with_relief number (codes "sunken") own) own (relief_scene number (codes "sunken") own)
button_scene Leave number own input = either_scene (is_it number input.pressed) (restored number input.relief own) own (restored_scene number input.relief own)
button_scene Press number own input = press_scene number own input (relief_to_keep number own)
button_scene Release number own input = release_scene number own input
button_scene Invoke number own input = refl

edit_scene : (number : ℕ) (key : EntryEdit) (own : Windowing) (store : Store) → scene_of (edited number key own store).own ≡ scene_of own
edit_scene number key own store = by (widget_at number own.widgets) refl
  where
    request : (asked : WidgetRequest) → scene_of (edited_as number own store asked).own ≡ scene_of own
    request (Told act) = refl
    request (Wants change) = changed_scene number change own store

    by : (widget : Option Widget) → widget_at number own.widgets ≡ widget → scene_of (edited number key own store).own ≡ scene_of own
    by None is = rw is refl
    by (Some widget) is = rw is (request (asked_by (edit_asked key (variable_text widget store) widget)))

cursor_scene : (number : ℕ) (how : CursorMove) (own : Windowing) (store : Store) → scene_of (moved_at number how own store) ≡ scene_of own
cursor_scene number how own store = placed (option_and_then (place_of how store) (widget_at number own.widgets))
  where
    placed : (at : Option ℕ) → scene_of (with_cursor number at own) ≡ scene_of own
    placed None = refl
    placed (Some at) = refl

entry_scene : (number moment : ℕ) (request : EntryRequest) (own : Windowing) (arrivals : Arrivals) (store : Store) → scene_of (entry_asked number moment request own arrivals store).own ≡ scene_of own
entry_scene number moment (entry_request.Edit key) own arrivals store = edit_scene number key own store
entry_scene number moment (entry_request.Move way) own arrivals store = cursor_scene number (By way) own store
entry_scene number moment (entry_request.Point x) own arrivals store = by (is_disabled_at number own) refl
  where
    by : (b : Bool) → is_disabled_at number own ≡ b → scene_of (pointed number moment x own arrivals store).own ≡ scene_of own
    by true is = rw is refl
    by false is = rw is (cursor_scene number (To x) own store)

effect_scene : (number : ℕ) (effect : Effect) (own : Windowing) → scene_of (with_effect number effect own) ≡ scene_of own
effect_scene number effect own = by effect.choice
  where
    by : (choice : Option Choice) → scene_of (with_effect number (record effect { choice = choice }) own) ≡ scene_of own
    by None = refl
    by (Some choice) = refl

listbox_scene : (number moment : ℕ) (request : ListboxRequest) (own : Windowing) (arrivals : Arrivals) → scene_of (listbox_asked number moment request own arrivals).own ≡ scene_of own
unfolding listbox_asked
listbox_scene number moment request own arrivals = by (effect_at number request own)
  where
    by : (effect : Option Effect) → scene_of (asked_with number moment request own arrivals effect).own ≡ scene_of own
    by None = refl
    by (Some effect) = effect_scene number effect own

class_scene : (command : ClassCommand) (words : List (List ℕ)) (moment : ℕ) (own : Windowing) (arrivals : Arrivals) (store : Store)
    → scene_of (class_command_done command words moment own arrivals store).own ≡ scene_of own
unfolding class_command_done
class_scene command words moment own arrivals store = by (target_in command words own)
  where
    request : (number : ℕ) (asks : ClassRequest) → scene_of (asked number moment asks own arrivals store).own ≡ scene_of own
    request number (Button asks) = button_scene asks number own arrivals.input
    request number (Entry asks) = entry_scene number moment asks own arrivals store
    request number (Listbox asks) = listbox_scene number moment asks own arrivals

    by : (target : Result ClassTarget (List ℕ)) → scene_of (requested moment target own arrivals store).own ≡ scene_of own
    by (Ok target) = request target.number target.request
    by (Err text) = refl

module _ (Q : Scene → Scene → Type 0) (acts : HoldsOnScene Q) where
  same_scene : (old new : Scene) → new ≡ old → Q old new
  same_scene old new same = subst (Q old) (sym same) (acts.same old)

  abbrev Does : Panel → Panel → Type 0
  Does old new = Acts Q acts old new

  -- ── `puts`, `after`, `clock`, `update`, `destroy` ──

  moment_does : (command : MomentCommand) (words : List (List ℕ)) (panel : Panel) → Does panel (moment_command_done command words panel).panel
  unfolding moment_command_done
  moment_does moment_command.Puts words panel = by_screen Q acts panel (puts_words words panel).0 (puts_screen words panel)
  moment_does moment_command.After words panel = acts.same (scene_of panel.windowing)
  moment_does moment_command.Clock words panel = acts.same (scene_of panel.windowing)
  moment_does moment_command.Update words panel = acts.same (scene_of panel.windowing)
  moment_does moment_command.Destroy words panel = acts.same (scene_of panel.windowing)

  -- ── `bind`, `bindtags`, `event`, `focus` ──

  bindtags_does : (words : List (List ℕ)) (scene : Scene) → Q scene ((bindtags_words words scene.0).0, scene.1)
  unfolding bindtags_words
  bindtags_does [] scene = acts.same scene
  bindtags_does (path ∷ []) scene = acts.same scene
  bindtags_does (path ∷ list ∷ []) scene = by (at_path path scene.0)
    where
      items : (number : ℕ) (given : Result (List (List ℕ)) (List ℕ)) → Q scene ((with_items number given scene.0).0, scene.1)
      items number (Ok tags) = acts.changed number (with_tags tags) scene (record { number = λ w. refl; parent = λ w. refl; dying = λ w is. is }) (λ w. refl)
      items number (Err text) = acts.same scene

      by : (window : Option Window) → Q scene ((with_list path list window scene.0).0, scene.1)
      by (Some window) = items window.number (items_in list)
      by None = acts.same scene
  bindtags_does (path ∷ list ∷ word ∷ words) scene = acts.same scene

  generate_does : (words : List (List ℕ)) (panel : Panel) → Does panel (generate_told words panel).panel
  unfolding generate_told
  generate_does words panel = by (generate_words words panel.input.focus (length panel.queue) panel.moment panel.windowing.tree)
    where
      arrives : (when : When) (event : Event) → Does panel (generated_by_when when event panel).panel
      arrives Now event = acts.same (scene_of panel.windowing)
      arrives Tail event = acts.same (scene_of panel.windowing)
      arrives Head event = acts.same (scene_of panel.windowing)

      by : (generated : Result Generated (List ℕ)) → Does panel (generated_told generated panel).panel
      by (Ok generated) = arrives generated.when generated.event
      by (Err text) = acts.same (scene_of panel.windowing)

  event_does : (words : List (List ℕ)) (panel : Panel) → Does panel (event_told words panel).panel
  unfolding event_told
  event_does [] panel = acts.same (scene_of panel.windowing)
  event_does (name ∷ words) panel = by (bytes_eq name (codes "generate")) refl
    where
      by : (b : Bool) → bytes_eq name (codes "generate") ≡ b → Does panel (event_told (name ∷ words) panel).panel
      by true is = rw is (generate_does words panel)
      by false is = rw is (acts.same (scene_of panel.windowing))

  binding_does : (command : BindingCommand) (words : List (List ℕ)) (panel : Panel) → Does panel (binding_command_done command words panel).panel
  unfolding binding_command_done
  binding_does binding.Bind words panel = acts.same (scene_of panel.windowing)
  binding_does binding.Bindtags words panel = bindtags_does words (scene_of panel.windowing)
  binding_does binding.Event words panel = event_does words panel
  binding_does binding.Focus words panel = acts.same (scene_of panel.windowing)

  -- ── windows ──

  not_main : (b : Bool) (fault : WindowFault) (rest : Option WindowFault) → cond b (Some fault) rest ≡ None → (b ≡ false) × (rest ≡ None)
  not_main true fault rest is = absurd (cc)
  not_main false fault rest is = (refl, is)

  create_does : (kind : Kind) (words : List (List ℕ)) (own : Windowing) (store : Store) → Q (scene_of own) (scene_of (create_words kind words own store).own)
  unfolding create_words
  create_does kind [] own store = acts.same (scene_of own)
  create_does kind (path ∷ options) own store = by (path_refusal path own.tree) refl
    where
      written : (bytes_eq path (codes ".") ≡ false) × (refusal path own.tree ≡ None) → (ready : Ready) (set : Result Store (List ℕ)) → wrote ready.write store ≡ set
          → Q (scene_of own) (scene_of (or_keeps own store (made_of kind path own store (Ok ready))).own)
      written may ready (Ok new) is = rw is (acts.made path kind (scene_of own) may.0 may.1)
      written may ready (Err text) is = rw is (acts.same (scene_of own))

      tested : (bytes_eq path (codes ".") ≡ false) × (refusal path own.tree ≡ None) → (given : Result Ready (List ℕ)) → Q (scene_of own) (scene_of (or_keeps own store (made_of kind path own store given)).own)
      tested may (Ok ready) = written may ready (wrote ready.write store) refl
      tested may (Err text) = acts.same (scene_of own)

      by : (refused : Option WindowFault) → path_refusal path own.tree ≡ refused → Q (scene_of own) (scene_of (or_keeps own store (made kind path options own store)).own)
      by None is = rw is (tested (not_main (bytes_eq path (codes ".")) BadPath (refusal path own.tree) is) (configured_new kind (settings options (options_of kind))))
      by (Some fault) is = rw is (acts.same (scene_of own))

  window_does : (command : WindowCommand) (words : List (List ℕ)) (own : Windowing) (store : Store) → Q (scene_of own) (scene_of (window_command_done command words own store).own)
  unfolding window_command_done
  window_does (Make kind) words own store = create_does kind words own store
  window_does Winfo words own store = acts.same (scene_of own)
  window_does Wm words own store = same_scene (scene_of own) (scene_of (wm_words words own).own) (wm_scene words own)

  screen_does : (command : ScreenCommand) (words : List (List ℕ)) (panel : Panel) (store : Store) → Does panel (screen_command_done command words panel store).panel
  unfolding screen_command_done
  screen_does (OnWindow command) words panel store = window_does command words panel.windowing store
  screen_does Pack words panel store = acts.packed words (scene_of panel.windowing)

  -- ── what class bindings run ──

  selection_does : (number : ℕ) (panel : Panel) → Does panel (selection_told number panel).panel
  selection_does number panel = by (selection_of panel.moment (window_at number panel.windowing.tree))
    where
      by : (event : Option Event) → Does panel (dispatched_if event panel).panel
      by (Some event) = acts.same (scene_of panel.windowing)
      by None = acts.same (scene_of panel.windowing)

  class_does : (command : ClassCommand) (words : List (List ℕ)) (panel : Panel) (store : Store) → Does panel (class_told command words panel store).panel
  unfolding class_told
  class_does command words panel store =
      let there : ClassDone = class_command command words panel store in
      acts.after (scene_of panel.windowing) (scene_of there.panel.windowing) (scene_of (outcome_for there.outcome there.panel).panel.windowing)
      (same_scene (scene_of panel.windowing) (scene_of there.panel.windowing) (class_scene command words panel.moment panel.windowing (arrivals_in panel) store))
      (by there.outcome there.panel)
    where
      by : (outcome : ClassOutcome) (panel : Panel) → Does panel (outcome_for outcome panel).panel
      by (class.Acts act) panel = acts.same (scene_of panel.windowing)
      by (class.Selects number) panel = selection_does number panel

  -- ── all commands ──

  pub command_acts : (words : List (List ℕ)) (panel : Panel) (store : Store) → Does panel (panel_command words panel store).panel
  command_acts =
      command_keeps Does (λ panel. acts.same (scene_of panel.windowing)) moment_does binding_does screen_does class_does
      (λ name words panel store. same_scene (scene_of panel.windowing) (scene_of (path_words name words panel.windowing store).own) (path_scene name words panel.windowing store))
