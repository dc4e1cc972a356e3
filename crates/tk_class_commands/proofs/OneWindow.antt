-- A command that a class binding runs touches no window but the one that its path names.
use Rattle.std.proofs.Common.{◌≡◌, ℕ, ℤ, Bool, true, false, List, [], ◌∷◌, Option, None, Some, refl, sym, ap, ◌∙◌, subst}
use Rattle.std.specs.Prelude.{IfOk, IfSome, Result, Ok, Err, codes, if◌then◌else◌, is_some, option_and_then}
use Rattle.std.specs.Option.{option_map_or}
use Rattle.std.specs.Str.{bytes_eq}
use Rattle.tcl_text.specs.Answers.{◌>>=◌}
use Rattle.tcl_vars.specs.Store.{Store}
use Rattle.tk_base.specs.declared.kind.Kind.{Kind}
use Rattle.tk_base.specs.Kind.{class_of}
use Rattle.tk_class_commands.specs.Buttons as buttons
use Rattle.tk_class_commands.specs.Changes.{with_change}
use Rattle.tk_class_commands.specs.Commands.{asked, class_command_done, requested}
use Rattle.tk_class_commands.specs.Entries as entries
use Rattle.tk_class_commands.specs.Listboxes as listboxes
use Rattle.tk_class_commands.specs.declared.buttons.ButtonRequest.{ButtonRequest}
use Rattle.tk_class_commands.specs.declared.buttons.ButtonRequest.TheVariants.{Enter, Leave, Press, Release, Invoke}
use Rattle.tk_class_commands.specs.declared.entries.CursorMove.{CursorMove}
use Rattle.tk_class_commands.specs.declared.entries.CursorMove.TheVariants.{By, To}
use Rattle.tk_class_commands.specs.declared.entries.EntryRequest.{EntryRequest}
use Rattle.tk_class_commands.specs.declared.entries.EntryRequest.TheVariants as entry
use Rattle.tk_class_commands.specs.declared.listboxes.Effect.{Effect}
use Rattle.tk_class_commands.specs.declared.listboxes.ListboxRequest.{ListboxRequest}
use Rattle.tk_class_commands.specs.declared.requests.ClassRequest.{ClassRequest}
use Rattle.tk_class_commands.specs.declared.requests.ClassRequest.TheVariants.{Button, Entry, Listbox}
use Rattle.tk_class_commands.specs.declared.requests.ClassTarget.{ClassTarget}
use Rattle.tk_class_commands.specs.declared.table.ClassForm.{ClassForm}
use Rattle.tk_class_commands.specs.declared.table.ClassForm.TheVariants.{Path, Word}
use Rattle.tk_class_commands.specs.declared.table.PathForm.{PathForm}
use Rattle.tk_class_commands.specs.declared.table.WordForm.{WordForm}
use Rattle.tk_class_commands.specs.Outcomes.{Done, done, nothing}
use Rattle.tk_class_commands.specs.Requests.{path_request, path_target, target, target_by, target_in, word_request, word_target}
use Rattle.tk_class_commands.specs.Table.{ClassCommand}
use Rattle.tk_class_commands.specs.Targets.{number_in, number_of}
use Rattle.tk_class_commands.specs.Named.{IsNumbered}
use Rattle.tk_inputs.specs.Deliver.{Arrivals}
use Rattle.tk_inputs.specs.declared.inputs.Input.{Input}
use Rattle.tk_inputs.specs.Focus.{focused}
use Rattle.tk_options.specs.declared.settings.Setting.{Setting}
use Rattle.tk_screen.proofs.Touching.{touch_changed, touch_made, touch_none}
use Rattle.tk_screen.specs.Own.{Windowing}
use Rattle.tk_screen.specs.Shapes.{variable_text}
use Rattle.tk_screen.specs.Touch.{IsTouch}
use Rattle.tk_screen.specs.Widgets.{widget_at}
use Rattle.tk_tree.specs.declared.window.Window.{Window}
use Rattle.tk_tree.specs.Own.{at_path}
use Rattle.tk_tree.specs.Path.{bad_path}
use Rattle.tk_widgets.specs.Commands.{edit_asked}
use Rattle.tk_widgets.specs.declared.choice.Choice.{Choice}
use Rattle.tk_widgets.specs.declared.entry_commands.EntryEdit.{EntryEdit}
use Rattle.tk_widgets.specs.declared.outcome.WidgetChange.TheVariants.{Activate, Configure, PutCursor, Select}
use Rattle.tk_widgets.specs.declared.outcome.WidgetRequest.{WidgetRequest}
use Rattle.tk_widgets.specs.declared.outcome.WidgetRequest.TheVariants as request
use Rattle.tk_widgets.specs.declared.widget.Widget.{Widget}
use Rattle.tk_widgets.specs.Outcomes.{asked_by}

touch_both : (number : ℕ) (one two three : Windowing) → IsTouch number one two → IsTouch number two three → IsTouch number one three
touch_both number one two three first second = (
  second.0,
  second.1 ∙ ap (λ (w : Windowing). record w { widgets = second.0 }) first.1,
  (λ other differ. second.2 other differ ∙ ap (λ (w : Windowing). widget_at other w.widgets) first.1 ∙ first.2 other differ),
  (λ other. second.3 other ∙ ap (λ (w : Windowing). is_some (widget_at other w.widgets)) first.1 ∙ first.3 other),
)

module _ (number : ℕ) (own : Windowing) where
  -- ── buttons ──

  relief_touch : (relief : List ℕ) → IsTouch number own (buttons.with_relief number relief own)
  relief_touch relief = by (option_and_then (buttons.relief_settings relief) (widget_at number own.widgets))
    where
      by : (all : Option (List Setting)) → IsTouch number own (option_map_or (λ all. with_change number (Configure all) own) all own)
      by None = touch_none number own
      by (Some all) = touch_made number (Configure all) own

  restored_touch : (kept : Option (List ℕ)) → IsTouch number own (buttons.restored number kept own)
  restored_touch None = touch_none number own
  restored_touch (Some relief) = relief_touch relief

  entered_touch : (b : Bool) → IsTouch number own (if b then buttons.with_relief number (codes "sunken") own else own)
  entered_touch true = relief_touch (codes "sunken")
  entered_touch false = touch_none number own

  left_touch : (b : Bool) (kept : Option (List ℕ)) → IsTouch number own (if b then buttons.restored number kept own else own)
  left_touch true kept = restored_touch kept
  left_touch false kept = touch_none number own

  pressed_touch : (input : Input) (kept : Option (List ℕ)) → IsTouch number own (buttons.pressed_with number own input kept).own
  pressed_touch input None = touch_none number own
  pressed_touch input (Some relief) = relief_touch (codes "sunken")

  button_touch : (request : ButtonRequest) (input : Input) → IsTouch number own (buttons.act request number own input).own
  unfolding buttons.act
  button_touch Enter input = entered_touch (buttons.is_it number input.pressed)
  button_touch Leave input = left_touch (buttons.is_it number input.pressed) input.relief
  button_touch Press input = pressed_touch input (buttons.relief_to_keep number own)
  button_touch Release input = by (buttons.is_it number input.pressed)
    where
      by : (b : Bool) → IsTouch number own (if b then buttons.told (buttons.restored number input.relief own) (record input { pressed = None }) (buttons.invoked_over number input (buttons.restored number input.relief own)) else buttons.told own input nothing).own
      by true = restored_touch input.relief
      by false = touch_none number own
  button_touch Invoke input = touch_none number own

  -- ── entries ──

  module _ (store : Store) where
    edit_touch : (asked : WidgetRequest) → IsTouch number own (entries.edited_as number own store asked).own
    edit_touch (request.Done act) = touch_none number own
    edit_touch (request.Wants change) = touch_changed number change own store

    edited_touch : (key : EntryEdit) → IsTouch number own (entries.edited number key own store).own
    edited_touch key = by (widget_at number own.widgets)
      where
        by : (widget : Option Widget) → IsTouch number own (option_map_or (λ widget. entries.edited_as number own store (asked_by (edit_asked key (variable_text widget store) widget))) widget (entries.told own store nothing)).own
        by None = touch_none number own
        by (Some widget) = edit_touch (asked_by (edit_asked key (variable_text widget store) widget))

    cursor_touch : (place : Option ℕ) → IsTouch number own (entries.with_cursor number place own)
    cursor_touch None = touch_none number own
    cursor_touch (Some place) = touch_made number (PutCursor place) own

    moved_touch : (how : CursorMove) → IsTouch number own (entries.moved_at number how own store)
    moved_touch how = cursor_touch (option_and_then (entries.place_of how store) (widget_at number own.widgets))

  -- ── listboxes ──

  choice_touch : (mid : Windowing) (choice : Option Choice) → IsTouch number own mid → IsTouch number own (listboxes.with_choice number choice mid)
  choice_touch mid None touch = touch
  choice_touch mid (Some choice) touch = touch_both number own mid (with_change number (Select choice) mid) touch (touch_made number (Select choice) mid)

  effect_touch : (effect : Effect) → IsTouch number own (listboxes.with_effect number effect own)
  effect_touch effect = choice_touch (with_change number (Activate effect.active) own) effect.choice (touch_made number (Activate effect.active) own)

  asked_touch : (moment : ℕ) (request : ListboxRequest) (arrivals : Arrivals) (effect : Option Effect) → IsTouch number own (listboxes.asked_with number moment request own arrivals effect).own
  asked_touch moment request arrivals None = touch_none number own
  asked_touch moment request arrivals (Some effect) = effect_touch effect

  listbox_touch : (moment : ℕ) (request : ListboxRequest) (arrivals : Arrivals) → IsTouch number own (listboxes.listbox_asked number moment request own arrivals).own
  unfolding listboxes.listbox_asked
  listbox_touch moment request arrivals = asked_touch moment request arrivals (listboxes.effect_at number request own)

  -- ── what is asked of a widget ──

  entry_touch : (moment : ℕ) (request : EntryRequest) (arrivals : Arrivals) (store : Store) → IsTouch number own (entries.entry_asked number moment request own arrivals store).own
  entry_touch moment (entry.Edit key) arrivals store = edited_touch store key
  entry_touch moment (entry.Move way) arrivals store = moved_touch store (By way)
  entry_touch moment (entry.Point x) arrivals store = by (entries.is_disabled_at number own)
    where
      by : (b : Bool)
          → IsTouch number own (if b then done own arrivals store nothing else done (entries.moved_at number (To x) own store) (focused number moment own.tree arrivals) store nothing).own
      by true = touch_none number own
      by false = moved_touch store (To x)

  class_touch : (moment : ℕ) (request : ClassRequest) (arrivals : Arrivals) (store : Store) → IsTouch number own (asked number moment request own arrivals store).own
  class_touch moment (Button request) arrivals store = button_touch request arrivals.input
  class_touch moment (Entry request) arrivals store = entry_touch moment request arrivals store
  class_touch moment (Listbox request) arrivals store = listbox_touch moment request arrivals

-- ── the window that the path names ──

-- what is asked of a window is asked of the one with this number
abbrev HasNumber : ℕ → Result ClassTarget (List ℕ) → Type 0
HasNumber number target = IfOk target (λ target. number ≡ target.number)

named : (kind : Kind) (path : List ℕ) (number : ℕ) (window : Option Window) → IfSome window (λ window. number ≡ window.number) → IfOk (number_in kind path window) (λ found. number ≡ found)
named kind path number None is = tt
named kind path number (Some window) is = by (bytes_eq (class_of window.kind) (class_of kind))
  where
    by : (b : Bool) → IfOk (if b then Ok window.number else bad_path path) (λ found. number ≡ found)
    by true = is
    by false = tt

module _ (number : ℕ) where
  alone : (request : ClassRequest) (found : Result ℕ (List ℕ)) → IfOk found (λ n. number ≡ n) → HasNumber number (found >>= λ n. Ok (target n request))
  alone request (Ok n) is = is
  alone request (Err text) is = tt

  with_word : (form : WordForm) (word : List ℕ) (found : Result ℕ (List ℕ)) → IfOk found (λ n. number ≡ n) → HasNumber number (found >>= λ n. word_request form word >>= λ request. Ok (target n request))
  with_word form word (Ok n) is = by (word_request form word)
    where
      by : (asked : Result ClassRequest (List ℕ)) → HasNumber number (asked >>= λ request. Ok (target n request))
      by (Ok request) = is
      by (Err text) = tt
  with_word form word (Err text) is = tt

  path_named : (command : ClassCommand) (form : PathForm) (words : List (List ℕ)) (own : Windowing) → IsNumbered number words own.tree → HasNumber number (path_target command form words own)
  unfolding number_of
  path_named command form [] own is = tt
  path_named command form (path ∷ []) own is = alone (path_request form) (number_in command.kind path (at_path path own.tree)) (named command.kind path number (at_path path own.tree) is)
  path_named command form (path ∷ word ∷ words) own is = tt

  word_named : (command : ClassCommand) (form : WordForm) (words : List (List ℕ)) (own : Windowing) → IsNumbered number words own.tree → HasNumber number (word_target command form words own)
  unfolding number_of
  word_named command form [] own is = tt
  word_named command form (path ∷ []) own is = tt
  word_named command form (path ∷ word ∷ []) own is = with_word form word (number_in command.kind path (at_path path own.tree)) (named command.kind path number (at_path path own.tree) is)
  word_named command form (path ∷ word ∷ other ∷ words) own is = tt

  target_named : (command : ClassCommand) (form : ClassForm) (words : List (List ℕ)) (own : Windowing) → IsNumbered number words own.tree → HasNumber number (target_by command form words own)
  target_named command (Path form) words own is = path_named command form words own is
  target_named command (Word form) words own is = word_named command form words own is

requested_touch : (number moment : ℕ) (target : Result ClassTarget (List ℕ)) (own : Windowing) (arrivals : Arrivals) (store : Store) → HasNumber number target
    → IsTouch number own (requested moment target own arrivals store).own
requested_touch number moment (Ok target) own arrivals store is =
    subst (λ n. IsTouch n own (asked target.number moment target.request own arrivals store).own) (sym is) (class_touch target.number own moment target.request arrivals store)
requested_touch number moment (Err text) own arrivals store is = touch_none number own

-- the command touches the window alone that its path names
pub command_touch : (number moment : ℕ) (command : ClassCommand) (words : List (List ℕ)) (own : Windowing) (arrivals : Arrivals) (store : Store) → IsNumbered number words own.tree
    → IsTouch number own (class_command_done command words moment own arrivals store).own
unfolding class_command_done
command_touch number moment command words own arrivals store is =
    requested_touch number moment (target_in command words own) own arrivals store (target_named number command command.form words own is)
