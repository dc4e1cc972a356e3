-- The commands of an application leave the frames of its variables where they are, and links lead to earlier ones; its jobs change no variable.
use Rattle.std.proofs.Common.{◌≡◌, ℕ, Bool, true, false, cond, List, [], ◌∷◌, Option, Some, None, Result, Ok, Err, refl}
use Rattle.std.specs.Prelude.{not, ◌&&◌}
use Rattle.tcl_text.specs.declared.fault.SetFault.{SetFault}
use Rattle.tcl_vars.specs.Store.{Store, variable_in, with_variable}
use Rattle.tcl_control.specs.declared.code.Code.{Code}
use Rattle.tcl_interp.specs.declared.job.Task.{Task}
use Rattle.tcl_interp.specs.declared.job.Task.TheVariants.{Begins, Waits, Runs, Invoked}
use Rattle.tcl_interp.specs.declared.tasks.Act.{Act}
use Rattle.tk_base.specs.declared.kind.Kind.{Kind}
use Rattle.tk_class_commands.specs.Commands.{asked, class_command_done, requested}
use Rattle.tk_class_commands.specs.declared.entries.EntryRequest.{EntryRequest}
use Rattle.tk_class_commands.specs.declared.entries.EntryRequest.TheVariants as entry_request
use Rattle.tk_class_commands.specs.declared.requests.ClassRequest.{ClassRequest}
use Rattle.tk_class_commands.specs.declared.requests.ClassRequest.TheVariants.{Button, Entry, Listbox}
use Rattle.tk_class_commands.specs.declared.requests.ClassTarget.{ClassTarget}
use Rattle.tk_class_commands.specs.Entries.{edited, edited_as, entry_asked, is_disabled_at, pointed}
use Rattle.tk_class_commands.specs.Requests.{target_in}
use Rattle.tk_class_commands.specs.Table.{ClassCommand}
use Rattle.tk_inputs.specs.Deliver.{Arrivals}
use Rattle.tk_options.specs.Options.{settings}
use Rattle.tk_options.specs.Rows.{options_of}
use Rattle.tk_pack_commands.specs.Targets.{begins_path}
use Rattle.tk_panel.specs.declared.job.Job.{Job}
use Rattle.tk_panel.specs.Panel.{Panel}
use Rattle.tk_screen.specs.Changes.{changed, changed_after, is_absent, or_cannot_set, wrote, wrote_one}
use Rattle.tk_screen.specs.Own.{Windowing}
use Rattle.tk_screen.specs.Shapes.{variable_text}
use Rattle.tk_screen.specs.Widgets.{widget_at}
use Rattle.tk_tree.specs.declared.fault.WindowFault.{WindowFault}
use Rattle.tk_tree.specs.declared.window.Window.{Window}
use Rattle.tk_tree.specs.Own.{at_path}
use Rattle.tk_widgets.specs.Commands.{edit_asked, variable_write, wanted}
use Rattle.tk_widgets.specs.declared.entry_commands.EntryEdit.{EntryEdit}
use Rattle.tk_widgets.specs.declared.outcome.VariableWrite.{VariableWrite}
use Rattle.tk_widgets.specs.declared.outcome.WidgetChange.{WidgetChange}
use Rattle.tk_widgets.specs.declared.outcome.WidgetRequest.{WidgetRequest}
use Rattle.tk_widgets.specs.declared.outcome.WidgetRequest.TheVariants.{Done as Told, Wants}
use Rattle.tk_widgets.specs.declared.widget.Widget.{Widget}
use Rattle.tk_widgets.specs.Outcomes.{asked_by}
use Rattle.tk_window_commands.specs.Commands.{window_command_done}
use Rattle.tk_window_commands.specs.Create.{configured_new, create_words, made, made_of, or_keeps, path_refusal}
use Rattle.tk_window_commands.specs.declared.commands.WindowCommand.{WindowCommand}
use Rattle.tk_window_commands.specs.declared.commands.WindowCommand.TheVariants.{Make, Winfo, Wm}
use Rattle.tk_window_commands.specs.declared.create.Ready.{Ready}
use Rattle.tk_window_commands.specs.Path.{asked_of, path_words, widget_words}
use Rattle.tk_panel.specs.Deliver.{arrivals_in}
use Rattle.tk_commands.specs.Calls.{calls as panel_calls, outcome_told}
use Rattle.tk_commands.specs.Class.{class_told}
use Rattle.tk_commands.specs.Commands.{command_done, command_named, done_by, panel_command}
use Rattle.tk_commands.specs.declared.commands.TkCommand.{TkCommand}
use Rattle.tk_commands.specs.declared.commands.TkCommand.TheVariants as command
use Rattle.tk_commands.specs.declared.outcome.CommandOutcome.{CommandOutcome}
use Rattle.tk_commands.specs.declared.outcome.CommandOutcome.TheVariants as outcome
use Rattle.tk_commands.specs.declared.screen.ScreenCommand.{ScreenCommand}
use Rattle.tk_commands.specs.declared.screen.ScreenCommand.TheVariants.{Window as OnWindow, Pack}
use Rattle.tk_commands.specs.Outcomes.{Done}
use Rattle.tk_commands.specs.Path.{path_told}
use Rattle.tk_commands.specs.Screen.{screen_command_done}
use Rattle.tk_app.specs.Outside.{alias_act, called_as, calls, outside}
use Rattle.tk_app.specs.Seen.{Seen}
use Rattle.tk_app.proofs.KeptFrames.{Keeps, KeepsIf, same, variable_set}
use Rattle.tk_app.proofs.Standing.{KeepsStores}

-- ── a variable that a widget shows ──

or_cannot_kept : (name : List ℕ) (store : Store) (r : Result Store SetFault) → KeepsIf store r → KeepsIf store (or_cannot_set name r)
or_cannot_kept name store (Ok new) kept = kept
or_cannot_kept name store (Err fault) kept = tt

one_kept : (write : VariableWrite) (store : Store) → KeepsIf store (wrote_one write store)
unfolding wrote_one
one_kept write store = by (write.absent_only && not (is_absent (variable_in store 0 write.name)))
  where
    set : Result Store SetFault
    set = with_variable store 0 write.name write.text

    by : (b : Bool) → KeepsIf store (cond b (Ok store) (or_cannot_set write.name set))
    by true = same store
    by false = or_cannot_kept write.name store set (variable_set store 0 write.name write.text)

wrote_kept : (write : Option VariableWrite) (store : Store) → KeepsIf store (wrote write store)
wrote_kept None store = same store
wrote_kept (Some write) store = one_kept write store

changed_kept : (number : ℕ) (change : WidgetChange) (own : Windowing) (store : Store) → Keeps store (changed number change own store).store
unfolding changed
changed_kept number change own store = by (widget_at number own.widgets) refl
  where
    written : (set : Result Store (List ℕ)) → KeepsIf store set → Keeps store (changed_after number change own store set).store
    written (Ok new) kept = kept
    written (Err text) kept = same store

    by : (widget : Option Widget) → widget_at number own.widgets ≡ widget → Keeps store (changed number change own store).store
    by None is = rw is (same store)
    by (Some widget) is = rw is (written (wrote (variable_write change widget) store) (wrote_kept (variable_write change widget) store))

-- ── a window's own command ──

request_kept : (number : ℕ) (request : WidgetRequest) (own : Windowing) (store : Store) → Keeps store (asked_of number request own store).store
request_kept number (Told act) own store = same store
request_kept number (Wants change) own store = changed_kept number change own store

widget_kept : (number : ℕ) (words : List (List ℕ)) (own : Windowing) (store : Store) → Keeps store (widget_words number words own store).store
widget_kept number words own store = by (widget_at number own.widgets) refl
  where
    by : (widget : Option Widget) → widget_at number own.widgets ≡ widget → Keeps store (widget_words number words own store).store
    by None is = rw is (same store)
    by (Some widget) is = rw is (request_kept number (asked_by (wanted words (variable_text widget store) widget)) own store)

path_kept : (path : List ℕ) (words : List (List ℕ)) (own : Windowing) (store : Store) → Keeps store (path_words path words own store).store
unfolding path_words
path_kept path words own store = by (at_path path own.tree) refl
  where
    by : (window : Option Window) → at_path path own.tree ≡ window → Keeps store (path_words path words own store).store
    by None is = rw is (same store)
    by (Some window) is = rw is (widget_kept window.number words own store)

-- ── a window that is made ──

create_kept : (kind : Kind) (words : List (List ℕ)) (own : Windowing) (store : Store) → Keeps store (create_words kind words own store).store
unfolding create_words
create_kept kind [] own store = same store
create_kept kind (path ∷ options) own store = by (path_refusal path own.tree) refl
  where
    written : (ready : Ready) (set : Result Store (List ℕ)) → wrote ready.write store ≡ set → KeepsIf store set → Keeps store (or_keeps own store (made_of kind path own store (Ok ready))).store
    written ready (Ok new) is kept = rw is kept
    written ready (Err text) is kept = rw is (same store)

    tested : (given : Result Ready (List ℕ)) → Keeps store (or_keeps own store (made_of kind path own store given)).store
    tested (Ok ready) = written ready (wrote ready.write store) refl (wrote_kept ready.write store)
    tested (Err text) = same store

    by : (refused : Option WindowFault) → path_refusal path own.tree ≡ refused → Keeps store (or_keeps own store (made kind path options own store)).store
    by None is = rw is (tested (configured_new kind (settings options (options_of kind))))
    by (Some fault) is = rw is (same store)

window_kept : (named : WindowCommand) (words : List (List ℕ)) (own : Windowing) (store : Store) → Keeps store (window_command_done named words own store).store
unfolding window_command_done
window_kept (Make kind) words own store = create_kept kind words own store
window_kept Winfo words own store = same store
window_kept Wm words own store = same store

screen_kept : (named : ScreenCommand) (words : List (List ℕ)) (panel : Panel) (store : Store) → Keeps store (screen_command_done named words panel store).store
unfolding screen_command_done
screen_kept (OnWindow named) words panel store = window_kept named words panel.windowing store
screen_kept Pack words panel store = same store

-- ── what class bindings run ──

edit_kept : (number : ℕ) (key : EntryEdit) (own : Windowing) (store : Store) → Keeps store (edited number key own store).kept
edit_kept number key own store = by (widget_at number own.widgets) refl
  where
    request : (asks : WidgetRequest) → Keeps store (edited_as number own store asks).kept
    request (Told act) = same store
    request (Wants change) = changed_kept number change own store

    by : (widget : Option Widget) → widget_at number own.widgets ≡ widget → Keeps store (edited number key own store).kept
    by None is = rw is (same store)
    by (Some widget) is = rw is (request (asked_by (edit_asked key (variable_text widget store) widget)))

entry_kept : (number moment : ℕ) (request : EntryRequest) (own : Windowing) (arrivals : Arrivals) (store : Store) → Keeps store (entry_asked number moment request own arrivals store).store
entry_kept number moment (entry_request.Edit key) own arrivals store = edit_kept number key own store
entry_kept number moment (entry_request.Move way) own arrivals store = same store
entry_kept number moment (entry_request.Point x) own arrivals store = by (is_disabled_at number own) refl
  where
    by : (b : Bool) → is_disabled_at number own ≡ b → Keeps store (pointed number moment x own arrivals store).store
    by true is = rw is (same store)
    by false is = rw is (same store)

class_kept : (named : ClassCommand) (words : List (List ℕ)) (moment : ℕ) (own : Windowing) (arrivals : Arrivals) (store : Store)
    → Keeps store (class_command_done named words moment own arrivals store).store
unfolding class_command_done
class_kept named words moment own arrivals store = by (target_in named words own)
  where
    request : (number : ℕ) (asks : ClassRequest) → Keeps store (asked number moment asks own arrivals store).store
    request number (Button asks) = same store
    request number (Entry asks) = entry_kept number moment asks own arrivals store
    request number (Listbox asks) = same store

    by : (target : Result ClassTarget (List ℕ)) → Keeps store (requested moment target own arrivals store).store
    by (Ok target) = request target.number target.request
    by (Err text) = same store

-- ── all commands ──

command_kept : (named : TkCommand) (words : List (List ℕ)) (panel : Panel) (store : Store) → Keeps store (command_done named words panel store).store
unfolding command_done class_told
command_kept (command.Moment named) words panel store = same store
command_kept (command.Binding named) words panel store = same store
command_kept (command.Screen named) words panel store = screen_kept named words panel store
command_kept (command.Class named) words panel store = class_kept named words panel.moment panel.windowing (arrivals_in panel) store

done_kept : (named : Option TkCommand) (words : List (List ℕ)) (panel : Panel) (store : Store) → Keeps store (done_by named words panel store).store
done_kept None words panel store = same store
done_kept (Some named) words panel store = command_kept named words panel store

pub panel_kept : (words : List (List ℕ)) (panel : Panel) (store : Store) → Keeps store (panel_command words panel store).store
panel_kept [] panel store = same store
panel_kept (name ∷ words) panel store = by (begins_path name)
  where
    by : (b : Bool) → Keeps store (cond b (path_told name words panel store) (done_by (command_named name) words panel store)).store
    by true = path_kept name words panel.windowing store
    by false = done_kept (command_named name) words panel store

-- ── calls and tasks ──

told_kept : (came : CommandOutcome) (panel : Panel) (store new : Store) → Keeps store new → Keeps store (outcome_told came panel new).store
told_kept (outcome.Acts act) panel store new kept = kept
told_kept (outcome.Begins begun) panel store new kept = kept
told_kept outcome.Unknown panel store new kept = kept

call_kept : (panel : Panel) (store : Store) (words : List (List ℕ)) → Keeps store (panel_calls panel store words).store
unfolding panel_calls
call_kept panel store words =
    let came : Done = panel_command words panel store in told_kept came.outcome came.panel store came.store (panel_kept words panel store)

called_kept : (seen : Seen) (store : Store) (words : List (List ℕ)) → Keeps store (calls seen store words).store
called_kept seen store words = by (alias_act seen.serves words)
  where
    by : (served : Option (Act (Task Job))) → Keeps store (called_as served words seen store).store
    by (Some act) = same store
    by None = call_kept seen.panel store words

task_kept : (seen : Seen) (store : Store) (task : Task Job) (code : Code) (text : List ℕ) → Keeps store (outside.resumes seen store task code text).store
task_kept seen store (Begins script job) code text = same store
task_kept seen store (Waits job) code text = same store
task_kept seen store (Runs job) code text = same store
task_kept seen store Invoked code text = same store

pub outside_keeps : KeepsStores outside
outside_keeps = (called_kept, task_kept)
