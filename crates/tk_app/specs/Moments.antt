-- Meaning. What becomes of an application at a moment: its script, an event that it is given, and what is to be done then.
use Rattle.std.specs.Prelude.{ℕ, ◌+◌, min, List, [], ◌∷◌, if◌then◌else◌}
use Rattle.tcl_interp.specs.Evaluation.{State, Outcome, Ended, OutOfSteps}
use Rattle.tk_base.specs.declared.local_event.LocalEvent.{LocalEvent}
use Rattle.tk_panel.specs.Deliver.{delivered_panel}
use Rattle.tk_panel.specs.Panel.{Panel, is_closed}
use Rattle.tk_base.specs.declared.budget.Budget.{Budget}
use Rattle.tk_app.specs.declared.state.AppState.{AppState}
use Rattle.tk_app.specs.declared.state.AppState.TheVariants.{Running, Exhausted, Closed}
use Rattle.tk_app.specs.Application.{Application, panel_at, with_panel}
use Rattle.tk_app.specs.Commands.{Update}
use Rattle.tk_app.specs.Dispatch.{Action}
use Rattle.tk_app.specs.Seen.{Meaning, Seen, meanings}
use Rattle.tk_app.specs.Settle.{start_meaning}

-- how many steps are left once an event has granted some: as many as there were at first, at most
abbrev pub granted : Budget → ℕ → ℕ
granted budget steps = min (steps + budget.refill) budget.total

-- What has become of an application once what was under way has ended: it is closed where its main window is gone.
abbrev pub state_after : Panel → AppState
state_after panel = if is_closed panel then Closed else Running

module _ {M : Type 0} where
  -- the application that a state belongs to
  abbrev pub with_left : State Seen → Application M → Application M
  with_left left application = record (with_panel left.shows.panel application) { store = left.store; commands = left.context.commands; steps = left.steps }

  -- what has become of it: where a step was needed and none was left, it is exhausted
  abbrev pub after_outcome : Outcome Seen → Application M → Application M
  after_outcome (Ended left code text) application = record (with_left left application) { state = state_after left.shows.panel }
  after_outcome (OutOfSteps left) application = record (with_left left application) { steps = 0; state = Exhausted }

  -- ── an event ──

  -- an event of its moment is given to an application that runs: it is granted steps, and the panel takes the event
  abbrev pub delivered_as : AppState → LocalEvent → Application M → Application M
  delivered_as Running event application =
      record (with_panel (delivered_panel event (panel_at event.moment application)) application) { steps = granted application.budget application.steps }
  delivered_as Exhausted event application = application
  delivered_as Closed event application = application

  -- An application that an event was given to, before it does what comes of it. One that doesn't run gets nothing.
  unfoldable pub delivered : LocalEvent → Application M → Application M
  delivered event application = delivered_as application.state event application

module _ {M : Type 0} (answer : M → Meaning) where
  -- what its scripts find
  abbrev pub seen_at : ℕ → Application M → Seen
  seen_at moment application = record { serves = meanings answer application.aliases; panel = panel_at moment application }

  -- the state that its scripts act on, at some levels
  abbrev pub state_in : List ℕ → ℕ → Application M → State Seen
  state_in levels moment application =
      record {
        shows = seen_at moment application;
        store = application.store;
        context = record { levels = levels; commands = application.commands };
        steps = application.steps;
      }

  -- and at the global level alone
  abbrev pub state_at : ℕ → Application M → State Seen
  state_at moment application = state_in (0 ∷ []) moment application

  -- By what `update` and *Settle* are: its script has run at a moment, an error of it is told, and what was to be done then is done.
  unfoldable pub started_by : Update → Action → ℕ → List ℕ → Application M → Application M
  started_by update settle moment script application = after_outcome (start_meaning update settle script (state_at moment application)) application

  -- by what *Settle* is
  module _ (settle : Action) where
    -- What is to be done at a moment has been done. An application that is exhausted or closed does nothing more.
    abbrev pub settled_as : AppState → ℕ → Application M → Application M
    settled_as Running moment application = after_outcome (settle (state_at moment application)) application
    settled_as Exhausted moment application = application
    settled_as Closed moment application = application

    unfoldable pub settled_by : ℕ → Application M → Application M
    settled_by moment application = settled_as application.state moment application
