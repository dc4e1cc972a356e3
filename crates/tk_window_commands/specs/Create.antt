-- Meaning. The commands of frame(n), label(n), button(n), entry(n) and listbox(n) that make a window.
use Rattle.std.specs.Prelude.{ℕ, if◌then◌else◌, List, [], ◌∷◌, ◌++◌, Option, None, Some, Result, Ok, Err, codes}
use Rattle.std.specs.Option.{option_map_or}
use Rattle.std.specs.Str.{bytes_eq}
use Rattle.tcl_text.specs.Answers.{◌>>=◌, fails, quoted, wrong_args}
use Rattle.tcl_vars.specs.Store.{Store}
use Rattle.tk_base.specs.declared.kind.Kind.{Kind}
use Rattle.tk_options.specs.declared.fault.OptionFault.{OptionFault}
use Rattle.tk_options.specs.declared.settings.Setting.{Setting}
use Rattle.tk_options.specs.FaultTexts.{fault_text as option_text}
use Rattle.tk_options.specs.Options.{settings, with_settings}
use Rattle.tk_options.specs.Rows.{options_of, row_of}
use Rattle.tk_screen.specs.Changes.{wrote}
use Rattle.tk_screen.specs.Own.{Windowing, with_made}
use Rattle.tk_tree.specs.Create.{refusal}
use Rattle.tk_tree.specs.declared.fault.WindowFault.{WindowFault}
use Rattle.tk_tree.specs.declared.fault.WindowFault.TheVariants.{BadPath, BadName, Dying, Exists, Full, NoMemory}
use Rattle.tk_tree.specs.Own.{Tree}
use Rattle.tk_tree.specs.Path.{parent_and_name}
use Rattle.tk_widgets.specs.Commands.{variable_write, with_options}
use Rattle.tk_widgets.specs.declared.outcome.WidgetChange.TheVariants.{Configure}
use Rattle.tk_widgets.specs.declared.widget.Widget.{Widget}
use Rattle.tk_widgets.specs.Sizes.{new_widget}
use Rattle.tk_window_commands.specs.Answers.{Done, keeps}
use Rattle.tk_window_commands.specs.declared.create.Ready.{Ready}

-- ---- the path

-- the name of a window below its parent, from its path
abbrev pub name_in : List ℕ → List ℕ
name_in path = option_map_or (λ parts. parts.1) (parent_and_name path) []

-- why a path is refused: 24 to 28
unfoldable pub refusal_text : List ℕ → WindowFault → List ℕ
refusal_text path BadPath = codes "bad window path name " ++ quoted path
refusal_text path BadName = codes "window name starts with an upper-case letter: " ++ quoted (name_in path)
refusal_text path Dying = codes "can't create window: parent has been destroyed"
refusal_text path Exists = codes "window name " ++ (quoted (name_in path) ++ codes " already exists in parent")
refusal_text path Full = codes "limit reached: windows"
-- (no definition makes this one: want of memory is no part of what is meant)
refusal_text path NoMemory = codes "out of memory"

-- the main window isn't made by a command
abbrev pub path_refusal : List ℕ → Tree → Option WindowFault
path_refusal path tree = if bytes_eq path (codes ".") then Some BadPath else refusal path tree

-- the path, if a window may be made of it
abbrev pub allowed : List ℕ → Option WindowFault → Result (List ℕ) (List ℕ)
allowed path None = Ok path
allowed path (Some fault) = fails (refusal_text path fault)

-- ---- the window

-- a widget with options set, and what they write into its variable
abbrev pub configured : List Setting → Widget → Ready
configured all widget = record { widget = with_options (with_settings all) widget; write = variable_write (Configure all) widget }

abbrev pub configured_new : Kind → Result (List Setting) OptionFault → Result Ready (List ℕ)
configured_new kind (Ok all) = Ok (configured all (new_widget kind))
configured_new kind (Err fault) = fails (option_text fault)

-- the window, made of the widget, whose variable is written
abbrev pub made_with : Kind → List ℕ → Windowing → Ready → Store → Done
made_with kind path own ready written = record { own = with_made path kind ready.widget own; store = written; answer = Ok path }

abbrev pub made_of : Kind → List ℕ → Windowing → Store → Result Ready (List ℕ) → Result Done (List ℕ)
made_of kind path own store given = do
  ready ← given
  written ← wrote ready.write store
  Ok (made_with kind path own ready written)

-- the path is tested before the options, and both before anything is written or made
abbrev pub made : Kind → List ℕ → List (List ℕ) → Windowing → Store → Result Done (List ℕ)
made kind path options own store = do
  _ ← allowed path (path_refusal path own.tree)
  made_of kind path own store (configured_new kind (settings options (options_of kind)))

-- a refused command changes nothing
abbrev pub or_keeps : Windowing → Store → Result Done (List ℕ) → Done
or_keeps own store (Ok done) = done
or_keeps own store (Err text) = keeps own store (Err text)

-- KIND path ?option value ..?: the answer is the path
unfoldable pub create_words : Kind → List (List ℕ) → Windowing → Store → Done
create_words kind [] own store = keeps own store (wrong_args (row_of kind).usage)
create_words kind (path ∷ options) own store = or_keeps own store (made kind path options own store)
