-- Meaning. A widget's command, from the words behind its name. `text` is that of the variable that the widget shows, where it can be read.
use Rattle.std.specs.Prelude.{ℕ, Bool, true, false, nat_le, if◌then◌else◌, List, [], ◌∷◌, length, map, Option, Some, None, unwrap_or, Result, Ok, Err, codes}
use Rattle.std.specs.Option.{option_or}
use Rattle.std.specs.Str.{bytes_eq}
use Rattle.tcl_text.specs.Answers.{◌>>=◌, answers, bad_option, limit_text, wrong_args}
use Rattle.tcl_text.specs.Readings.{list_form}
use Rattle.tk_widgets.specs.declared.entry.Entry.{Entry as EntryText}
use Rattle.tk_widgets.specs.Items.{texts}
use Rattle.tk_widgets.specs.Listboxes.{ListboxState, activated, deleted, inserted, selected}
use Rattle.tk_options.specs.declared.option.OptionEntry.{OptionEntry}
use Rattle.tk_options.specs.declared.option.OptionName.TheVariants.{Text, TextVariable}
use Rattle.tk_options.specs.declared.settings.Setting.{Setting}
use Rattle.tk_options.specs.Options.{description, last_setting, meant, settings, value_meant, value_of, with_settings}
use Rattle.tk_widgets.specs.declared.outcome.WidgetRequest.{WidgetRequest}
use Rattle.tk_widgets.specs.declared.outcome.WidgetRequest.TheVariants.{Done, Wants}
use Rattle.tk_widgets.specs.declared.outcome.WidgetChange.{WidgetChange}
use Rattle.tk_widgets.specs.declared.outcome.WidgetChange.TheVariants.{Configure, Edit, PutCursor, InsertItems, DeleteItems, Activate, Select}
use Rattle.tk_widgets.specs.declared.outcome.VariableWrite.{VariableWrite}
use Rattle.tk_widgets.specs.declared.outcome.WidgetAct.{WidgetAct}
use Rattle.tk_widgets.specs.declared.outcome.WidgetAct.TheVariants as act
use Rattle.tk_widgets.specs.declared.entry_commands.EntryEdit.{EntryEdit}
use Rattle.tk_widgets.specs.declared.widget.Parts.{Parts}
use Rattle.tk_widgets.specs.declared.widget.Parts.TheVariants.{Frame, Label, Button, Entry, Listbox}
use Rattle.tk_widgets.specs.declared.widget.Widget.{Widget}
use Rattle.tk_widgets.specs.Classes.{invoked}
use Rattle.tk_widgets.specs.EntryCommands.{edit_wanted, entry_words}
use Rattle.tk_widgets.specs.ListboxCommands.{listbox_words}
use Rattle.tk_widgets.specs.Outcomes.{Wanted, asked_by, change, nothing, or_fault, script, told}
use Rattle.tcl_text.specs.Limits.{most_bytes}

-- ---- what the words ask for

-- path cget option
abbrev pub cget : List (List ℕ) → List OptionEntry → Wanted
cget (option ∷ []) options = told (or_fault (value_meant option options))
cget _ options = wrong_args (codes "path cget option")

-- path configure ?option ..?: all options are told, or one, or some are set
abbrev pub configure_pairs : List (List ℕ) → List OptionEntry → Wanted
configure_pairs words options = do
  all ← or_fault (settings words options)
  change (Configure all)

abbrev pub configure : List (List ℕ) → List OptionEntry → Wanted
configure [] options = told (answers (list_form (map description options)))
configure (option ∷ []) options = do
  entry ← or_fault (meant option options)
  told (answers (description entry))
configure (option ∷ value ∷ words) options = configure_pairs (option ∷ value ∷ words) options

-- path invoke
abbrev pub button_invoke : List (List ℕ) → List OptionEntry → Wanted
button_invoke [] options = script (invoked options)
button_invoke _ options = wrong_args (codes "path invoke")

unfoldable pub button_words : List ℕ → List (List ℕ) → List OptionEntry → Wanted
button_words name words options = if bytes_eq name (codes "invoke") then button_invoke words options else bad_option name

-- the sub-commands that widgets of one kind alone have
abbrev pub own_words : List ℕ → List (List ℕ) → Option (List ℕ) → List OptionEntry → Parts → Wanted
own_words name words text options Frame = bad_option name
own_words name words text options Label = bad_option name
own_words name words text options Button = button_words name words options
own_words name words text options (Entry entry) = entry_words name words text options entry
own_words name words text options (Listbox listbox) = listbox_words name words listbox

unfoldable pub sub_command : List ℕ → List (List ℕ) → Option (List ℕ) → Widget → Wanted
sub_command name words text widget =
    if bytes_eq name (codes "cget") then cget words widget.options
    else if bytes_eq name (codes "configure") then configure words widget.options
    else own_words name words text widget.options widget.parts

-- path option ?arg ..?
abbrev pub wanted : List (List ℕ) → Option (List ℕ) → Widget → Wanted
wanted [] text widget = wrong_args (codes "path option ?arg ..?")
wanted (name ∷ words) text widget = sub_command name words text widget

-- what a key asks of a widget: nothing of one that is no entry
abbrev pub edit_of : EntryEdit → Option (List ℕ) → List OptionEntry → Parts → Wanted
edit_of how text options (Entry entry) = edit_wanted how text options entry
edit_of how text options _ = nothing

abbrev pub edit_asked : EntryEdit → Option (List ℕ) → Widget → Wanted
edit_asked how text widget = edit_of how text widget.options widget.parts

-- ---- what a change makes of a widget

abbrev pub with_options : (List OptionEntry → List OptionEntry) → Widget → Widget
with_options set widget = record widget { options = set widget.options }

-- a change of an entry's text or a listbox's items changes no other widget
abbrev pub entry_edited : (EntryText → EntryText) → Parts → Parts
entry_edited edit (Entry entry) = Entry (edit entry)
entry_edited edit parts = parts

abbrev pub with_entry : (EntryText → EntryText) → Widget → Widget
with_entry edit widget = record widget { parts = entry_edited edit widget.parts }

abbrev pub listbox_edited : (ListboxState → ListboxState) → Parts → Parts
listbox_edited edit (Listbox listbox) = Listbox (edit listbox)
listbox_edited edit parts = parts

abbrev pub with_listbox : (ListboxState → ListboxState) → Widget → Widget
with_listbox edit widget = record widget { parts = listbox_edited edit widget.parts }

-- `insert` of a listbox is refused where the list of all items would be past the limit
unfoldable pub is_within : ListboxState → Bool
is_within listbox = nat_le (length (list_form (texts listbox.items))) most_bytes

abbrev pub is_listed : Parts → Bool
is_listed (Listbox listbox) = is_within listbox
is_listed parts = true

abbrev pub within_list : Widget → Result Widget (List ℕ)
within_list widget = if is_listed widget.parts then Ok widget else Err limit_text

abbrev pub with_change : WidgetChange → Widget → Result Widget (List ℕ)
with_change (Configure all) widget = Ok (with_options (with_settings all) widget)
with_change (Edit edited) widget = Ok (with_entry (λ _. edited) widget)
with_change (PutCursor at) widget = Ok (with_entry (λ entry. record entry { cursor = at }) widget)
with_change (InsertItems at items) widget = within_list (with_listbox (inserted at items) widget)
with_change (DeleteItems from to) widget = Ok (with_listbox (deleted from to) widget)
with_change (Activate place) widget = Ok (with_listbox (activated place) widget)
with_change (Select how) widget = Ok (with_listbox (selected how) widget)

-- ---- the command

-- a widget, and what its command told
pub record Told : Type 0 where
  pub widget : Widget
  pub act : WidgetAct

abbrev pub made_by : Widget → Result Widget (List ℕ) → Told
made_by widget (Ok changed) = record { widget = changed; act = act.Answer [] }
made_by widget (Err text) = record { widget = widget; act = act.Fault text }

abbrev pub made : WidgetChange → Widget → Told
made change widget = made_by widget (with_change change widget)

abbrev pub done : WidgetRequest → Widget → Told
done (Done act) widget = record { widget = widget; act = act }
done (Wants change) widget = made change widget

abbrev pub commanded : List (List ℕ) → Option (List ℕ) → Widget → Told
commanded words text widget = done (asked_by (wanted words text widget)) widget

-- ---- what a change asks of a variable before it is made

-- the variable of this name; the empty name is that of none
abbrev pub linked : Option (List ℕ) → Option (List ℕ)
linked None = None
linked (Some []) = None
linked (Some (c ∷ cs)) = Some (c ∷ cs)

-- the variable that a widget shows
abbrev pub variable_of : Widget → Option (List ℕ)
variable_of widget = linked (value_of TextVariable widget.options)

abbrev pub write : List ℕ → Bool → Option (List ℕ) → Option VariableWrite
write text absent_only (Some name) = Some (record { name = name; text = text; absent_only = absent_only })
write text absent_only None = None

-- the own text of a widget once options are set
abbrev pub own_text_of : List Setting → List OptionEntry → Parts → List ℕ
own_text_of all options (Entry entry) = entry.text
own_text_of all options _ = unwrap_or (option_or (last_setting Text all) (value_of Text options)) []

abbrev pub own_text_after : List Setting → Widget → List ℕ
own_text_after all widget = own_text_of all widget.options widget.parts

-- an edit sets the variable; setting `-textvariable` sets one that is absent to the own text
abbrev pub variable_write : WidgetChange → Widget → Option VariableWrite
variable_write (Edit edited) widget = write edited.text false (variable_of widget)
variable_write (Configure all) widget = write (own_text_after all widget) true (linked (last_setting TextVariable all))
variable_write change widget = None
