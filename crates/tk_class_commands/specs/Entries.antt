-- Meaning. What keys and the pointer do to entries (entry(n)).
use Rattle.std.specs.Prelude.{ℕ, ℤ, Bool, false, List, Option, Some, None, option_and_then, codes, if◌then◌else◌}
use Rattle.std.specs.Option.{option_map_or}
use Rattle.std.specs.Str.{chars}
use Rattle.tcl_vars.specs.Store.{Store}
use Rattle.tk_class_commands.specs.Changes.{with_change}
use Rattle.tk_class_commands.specs.declared.entries.CursorMove.{CursorMove}
use Rattle.tk_class_commands.specs.declared.entries.CursorMove.TheVariants.{By, To}
use Rattle.tk_class_commands.specs.declared.entries.EntryRequest.{EntryRequest}
use Rattle.tk_class_commands.specs.declared.entries.EntryRequest.TheVariants as request
use Rattle.tk_class_commands.specs.declared.outcome.ClassOutcome.{ClassOutcome}
use Rattle.tk_class_commands.specs.Outcomes.{Done, done, nothing, outcome_of}
pub use Rattle.tk_class_commands.specs.Outcomes.{Told, told}
use Rattle.tk_widgets.specs.declared.entry.Entry.{Entry as EntryText}
use Rattle.tk_widgets.specs.Columns.{characters_within}
use Rattle.tk_widgets.specs.Entries.{moved, shown}
use Rattle.tk_inputs.specs.Deliver.{Arrivals}
use Rattle.tk_inputs.specs.Focus.{focused}
use Rattle.tk_options.specs.declared.option.OptionEntry.{OptionEntry}
use Rattle.tk_options.specs.declared.option.OptionName.TheVariants.{BorderWidth, State}
use Rattle.tk_options.specs.Options.{amount_of}
use Rattle.tk_screen.specs.Changes.{changed}
use Rattle.tk_screen.specs.Own.{Windowing}
use Rattle.tk_screen.specs.Shapes.{variable_text}
use Rattle.tk_screen.specs.Widgets.{widget_at}
use Rattle.tk_widgets.specs.Classes.{columns_to, has_value}
use Rattle.tk_widgets.specs.Commands.{edit_asked}
use Rattle.tk_widgets.specs.declared.entry_commands.EntryEdit.{EntryEdit}
use Rattle.tk_widgets.specs.declared.outcome.WidgetRequest.{WidgetRequest}
use Rattle.tk_widgets.specs.declared.outcome.WidgetRequest.TheVariants as asked
use Rattle.tk_widgets.specs.declared.outcome.WidgetChange.TheVariants.{PutCursor}
use Rattle.tk_widgets.specs.declared.widget.Parts.{Parts}
use Rattle.tk_widgets.specs.declared.widget.Parts.TheVariants.{Entry}
use Rattle.tk_widgets.specs.declared.widget.Widget.{Widget}
use Rattle.tk_widgets.specs.Outcomes.{asked_by}

-- ---- a key that edits

-- an edit sets the variable that the entry shows; where that can't be set, its error is told, and nothing is changed
abbrev pub edited_as : ℕ → Windowing → Store → WidgetRequest → Told Store
edited_as number own store (asked.Done act) = told own store (outcome_of (Some act))
edited_as number own store (asked.Wants change) =
    (let there = changed number change own store in told there.own there.store (outcome_of there.act))

abbrev pub edited : ℕ → EntryEdit → Windowing → Store → Told Store
edited number key own store =
    option_map_or (λ widget. edited_as number own store (asked_by (edit_asked key (variable_text widget store) widget))) (widget_at number own.widgets)
    (told own store nothing)

-- ---- the cursor

-- the cursor of an entry stands behind so many characters
abbrev pub with_cursor : ℕ → Option ℕ → Windowing → Windowing
with_cursor number place own = option_map_or (λ at. with_change number (PutCursor at) own) place own

-- where it comes by a key or to the pointer, so many pixels from the left edge, in an entry that shows this text of a variable
abbrev pub place_in : CursorMove → Option (List ℕ) → List OptionEntry → EntryText → ℕ
place_in (By way) text options entry = (moved way (shown text entry) entry).cursor
place_in (To x) text options entry = characters_within (columns_to x (amount_of BorderWidth options)) (chars (shown text entry))

abbrev pub place_by : CursorMove → Option (List ℕ) → List OptionEntry → Parts → Option ℕ
place_by how text options (Entry entry) = Some (place_in how text options entry)
place_by how text options parts = None

abbrev pub place_of : CursorMove → Store → Widget → Option ℕ
place_of how store widget = place_by how (variable_text widget store) widget.options widget.parts

abbrev pub moved_at : ℕ → CursorMove → Windowing → Store → Windowing
moved_at number how own store = with_cursor number (option_and_then (place_of how store) (widget_at number own.widgets)) own

abbrev pub is_disabled_at : ℕ → Windowing → Bool
is_disabled_at number own = option_map_or (λ widget. has_value State (codes "disabled") widget.options) (widget_at number own.widgets) false

-- a press: the entry gets the keys, and its cursor goes to the pointer, unless it is disabled
abbrev pub pointed : ℕ → ℕ → ℤ → Windowing → Arrivals → Store → Done
pointed number moment x own arrivals store =
    if is_disabled_at number own then done own arrivals store nothing
    else done (moved_at number (To x) own store) (focused number moment own.tree arrivals) store nothing

-- ---- what is asked of an entry

abbrev pub edit_done : Arrivals → Told Store → Done
edit_done arrivals there = done there.own arrivals there.kept there.outcome

abbrev pub entry_asked : ℕ → ℕ → EntryRequest → Windowing → Arrivals → Store → Done
entry_asked number moment (request.Edit key) own arrivals store = edit_done arrivals (edited number key own store)
entry_asked number moment (request.Move way) own arrivals store = done (moved_at number (By way) own store) arrivals store nothing
entry_asked number moment (request.Point x) own arrivals store = pointed number moment x own arrivals store
