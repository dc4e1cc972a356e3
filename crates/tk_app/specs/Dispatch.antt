-- Meaning. A script of an application at global level, and *Dispatch* (bind(n), bindtags(n)): the scripts of an event's tags run in order.
use Rattle.std.specs.Prelude.{ℕ, List, [], ◌∷◌}
use Rattle.tcl_control.specs.declared.code.Code.{Code}
use Rattle.tcl_control.specs.declared.code.Code.TheVariants.{Normal, Error, Return, Break, Continue}
use Rattle.tcl_interp.specs.Evaluation.{State, Outcome, Ended, and_then, with_step}
use Rattle.tcl_interp.specs.Plans.{run_at}
use Rattle.tcl_interp.specs.Scripts.{out_of_global}
use Rattle.tk_sequences.specs.declared.event.Event.{Event}
use Rattle.tk_panel.specs.declared.transcript.Stream.TheVariants.{Err as Errors}
use Rattle.tk_panel.specs.Choice.{chosen}
use Rattle.tk_panel.specs.Panel.{Panel}
use Rattle.tk_panel.specs.Reports.{with_line}
use Rattle.tk_app.specs.Seen.{Seen}

-- the state with another panel
abbrev pub with_whole_panel : Panel → State Seen → State Seen
with_whole_panel panel state = record state { shows = record state.shows { panel = panel } }

-- What is done in a state: it leaves another, or no step is left for it. What *Settle*, *Dispatch* and *Destroy* do ends normally, with the empty text.
abbrev pub Action : Type 0
Action = State Seen → Outcome Seen

-- nothing
abbrev pub ends_there : Action
ends_there state = Ended state Normal []

-- one thing, and another in the state that it leaves
abbrev pub followed_by : Outcome Seen → Action → Outcome Seen
followed_by first action = and_then first (λ left code text. action left)

-- how a script is run
abbrev pub RunsScripts : Type 0
RunsScripts = List ℕ → State Seen → Outcome Seen

-- How scripts are run is given.
module _ (run : RunsScripts) where
  -- what a script comes to at global level: it sees the global frame alone, and the other levels are back behind it
  abbrev pub global_meaning : List ℕ → State Seen → Outcome Seen
  global_meaning script state = run_at run 1 script state

  -- How a bound script has ended: at its end, which a return by itself is too, and by a continue, the others follow. A break ends the event, and so does
  -- an error, which is told.
  abbrev pub after_bound : Action → State Seen → Code → List ℕ → Outcome Seen
  after_bound others state Normal text = others state
  after_bound others state Error text = ends_there (with_whole_panel (with_line Errors text state.shows.panel) state)
  after_bound others state (Return code) text = others state
  after_bound others state Break text = ends_there state
  after_bound others state Continue text = others state

  -- bound scripts in their order, a step before each
  abbrev pub bound_meaning : List (List ℕ) → Action
  bound_meaning [] state = ends_there state
  bound_meaning (script ∷ scripts) state =
      with_step state (λ begun. and_then (global_meaning script begun) (λ left code text. after_bound (bound_meaning scripts) left (out_of_global code) text))

  -- *Dispatch*: for each tag in order the winner's script is substituted, then an event of a key or a button enters the history, and then the scripts
  -- run in order. Where a substitution is refused, that is told, the event enters the history all the same, and none runs. An event of a window that is
  -- gone is dropped.
  abbrev pub dispatch_meaning : Event → Action
  dispatch_meaning event state = (let there : Panel × List (List ℕ) = chosen event state.shows.panel in bound_meaning there.1 (with_whole_panel there.0 state))
