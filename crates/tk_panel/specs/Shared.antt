-- Steps. What all applications have in the tables that they share, and one's part of it.
use Rattle.std.specs.Prelude.{◌≡◌, ℕ}
use Rattle.tk_after.specs.Shared as timers
use Rattle.tk_dispatch.specs.Histories as histories
use Rattle.tk_inputs.specs.Shared as inputs
use Rattle.tk_patterns.specs.Shared as bindings
use Rattle.tk_dispatch.specs.Queue as queues
use Rattle.tk_screen.specs.Shared as screens
use Rattle.tk_virtual.specs.Shared as virtuals
use Rattle.tk_panel.specs.declared.tables.Tables.{Tables}
use Rattle.tk_panel.specs.Panel.{Panel}
use Rattle.tk_panel.specs.Written.{lines_of, LeavesLines}

abbrev pub panel_of : ℕ → Tables → Panel
panel_of slot tables = record {
  moment = tables.clock;
  windowing = screens.own_of slot tables.screen;
  bindings = bindings.own_of slot tables.bindings;
  virtuals = virtuals.own_of slot tables.virtuals;
  history = histories.own_of slot tables.histories;
  queue = queues.own_of slot tables.queue;
  input = inputs.own_of slot tables.inputs;
  timers = timers.own_of slot tables.timers;
  transcript = lines_of slot tables.transcripts;
}

-- what the others have, and the moment, are left alone
pub record LeavesOthers (slot : ℕ) (old new : Tables) : Type 0 where
  pub clock : new.clock ≡ old.clock
  pub screen : screens.LeavesOthers slot old.screen new.screen
  pub bindings : bindings.LeavesOthers slot old.bindings new.bindings
  pub virtuals : virtuals.LeavesOthers slot old.virtuals new.virtuals
  pub histories : histories.LeavesOthers slot old.histories new.histories
  pub queue : queues.LeavesOthers slot old.queue new.queue
  pub inputs : inputs.LeavesOthers slot old.inputs new.inputs
  pub timers : timers.LeavesOthers slot old.timers new.timers
  pub lines : LeavesLines slot old.transcripts new.transcripts
