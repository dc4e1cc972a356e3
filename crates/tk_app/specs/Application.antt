-- Meaning. An application as lists and values.
use Rattle.std.specs.Prelude.{ℕ, List, [], ◌∷◌, ◌++◌, Option, None}
use Rattle.tcl_table.specs.Table.{NamedCommands, first_commands}
use Rattle.tcl_vars.specs.Store.{Store}
use Rattle.tk_after.specs.Timers.{Timers, due_moments, least}
use Rattle.tk_sequences.specs.declared.event.Event.{Event}
use Rattle.tk_inputs.specs.declared.inputs.Input.{Input}
use Rattle.tk_patterns.specs.declared.binding.Binding.{Binding}
use Rattle.tk_screen.specs.Own.{Windowing}
use Rattle.tk_virtual.specs.declared.pair.Pair.{Pair}
use Rattle.tk_panel.specs.declared.transcript.Line.{Line}
use Rattle.tk_panel.specs.Fresh.{fresh as fresh_panel}
use Rattle.tk_panel.specs.Panel.{Panel}
use Rattle.tk_base.specs.declared.budget.Budget.{Budget}
use Rattle.tk_app.specs.declared.state.AppState.{AppState}
use Rattle.tk_app.specs.declared.state.AppState.TheVariants.{Running, Exhausted, Closed}
use Rattle.tk_app.specs.Names.{command_names}
use Rattle.tk_app.specs.Seen.{names_of}
use Rattle.tk_app.specs.Spec.{Spec}

pub record Application (M : Type 0) : Type 0 where
  pub name : List ℕ
  pub aliases : List (List ℕ × M)
  pub store : Store
  pub commands : NamedCommands
  -- its windows, their widgets, what is packed, its rectangle and its title
  pub windowing : Windowing
  -- its bindings and virtual events, in the order of registration
  pub bindings : List Binding
  pub virtuals : List Pair
  -- the last events of keys and buttons
  pub history : List Event
  -- the events that wait, the next one first
  pub queue : List Event
  -- which window has the keys, where the pointer is, which button widget is pressed
  pub input : Input
  pub timers : Timers
  pub transcript : List Line
  pub budget : Budget
  pub steps : ℕ
  pub state : AppState

module _ {M : Type 0} where
  -- what its scripts see and change beside variables, at a moment
  abbrev pub panel_at : ℕ → Application M → Panel
  panel_at moment application = record {
    moment = moment;
    windowing = application.windowing;
    bindings = application.bindings;
    virtuals = application.virtuals;
    history = application.history;
    queue = application.queue;
    input = application.input;
    timers = application.timers;
    transcript = application.transcript;
  }

  -- the application with another panel; the moment isn't its own
  abbrev pub with_panel : Panel → Application M → Application M
  with_panel panel application = record application {
    windowing = panel.windowing;
    bindings = panel.bindings;
    virtuals = panel.virtuals;
    history = panel.history;
    queue = panel.queue;
    input = panel.input;
    timers = panel.timers;
    transcript = panel.transcript;
  }

  -- An application before its script, with no variables, the commands at first, and what *fresh* of panels gives it. An alias replaces a command of
  -- its name.
  abbrev pub fresh : Spec M → Application M
  fresh spec = (let panel : Panel = fresh_panel spec.name (spec.width, spec.height) 0 in record {
    name = spec.name;
    aliases = spec.aliases;
    store = [] ∷ [];
    commands = first_commands (command_names ++ names_of spec.aliases);
    windowing = panel.windowing;
    bindings = panel.bindings;
    virtuals = panel.virtuals;
    history = panel.history;
    queue = panel.queue;
    input = panel.input;
    timers = panel.timers;
    transcript = panel.transcript;
    budget = spec.budget;
    steps = spec.budget.total;
    state = Running;
  })

-- when something of its own is due next, while it runs
abbrev pub next_due_as : AppState → Timers → Option ℕ
next_due_as Running timers = least (due_moments timers.entries)
next_due_as Exhausted timers = None
next_due_as Closed timers = None

abbrev pub next_due : {M : Type 0} → Application M → Option ℕ
next_due application = next_due_as application.state application.timers
