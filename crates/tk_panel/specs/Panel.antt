-- Meaning. What the scripts of one application see and change beside their variables.
use Rattle.std.specs.Prelude.{ℕ, Bool, List, is_none, codes}
use Rattle.tk_after.specs.Timers as timers
use Rattle.tk_sequences.specs.declared.event.Event.{Event}
use Rattle.tk_inputs.specs.declared.inputs.Input.{Input}
use Rattle.tk_patterns.specs.declared.binding.Binding.{Binding}
use Rattle.tk_screen.specs.Own as screens
use Rattle.tk_tree.specs.Own.{at_path}
use Rattle.tk_virtual.specs.declared.pair.Pair.{Pair}
use Rattle.tk_panel.specs.declared.transcript.Line.{Line}

pub record Panel : Type 0 where
  -- the moment, in milliseconds
  pub moment : ℕ
  -- its windows, their widgets, what is packed, and its rectangle
  pub windowing : screens.Windowing
  -- in the order of registration
  pub bindings : List Binding
  pub virtuals : List Pair
  -- the last events of keys and buttons
  pub history : List Event
  -- the events that wait, the next one first
  pub queue : List Event
  -- which window has the keys, where the pointer is, which button widget is pressed
  pub input : Input
  pub timers : timers.Timers
  pub transcript : List Line

-- with these events waiting
abbrev pub with_queue : List Event → Panel → Panel
with_queue events panel = record panel { queue = events }

-- the main window is gone
abbrev pub is_closed : Panel → Bool
is_closed panel = is_none (at_path (codes ".") panel.windowing.tree)
