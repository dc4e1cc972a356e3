-- Steps. What starts once its step is taken.
use Rattle.std.specs.Prelude.{ℕ, List, [], ◌∷◌, Option, Some, None}
use Rattle.std.specs.Option.{option_map_or}
use Rattle.tk_after.specs.declared.waiting.WaitingScript.{WaitingScript}
use Rattle.tk_after.specs.Timers.{entry_with, first_due, without}
use Rattle.tk_panel.specs.declared.job.Job.{Job}
use Rattle.tk_panel.specs.declared.job.Rest.{Rest}
use Rattle.tk_panel.specs.declared.job.Rest.TheVariants.{Ends, Destroys, Rounds}
use Rattle.tk_panel.specs.Panel.{Panel}

-- what is left of an application, the script that runs, and the job behind it
abbrev pub Started : Type 0
Started = Panel × (List ℕ × Job)

-- a script that is no event's
abbrev pub without_event : Rest → Job
without_event rest = record { event = None; rest = rest }

-- the timer that is due leaves its table, and runs
abbrev pub timer_taken : Rest → Panel → Option WaitingScript → Started
timer_taken rest panel (Some entry) = (record panel { timers = without entry.id panel.timers }, (entry.script, without_event rest))
timer_taken rest panel None = (panel, ([], without_event rest))

-- so does an idle script
abbrev pub script_in : Option WaitingScript → List ℕ
script_in entry = option_map_or (λ entry. entry.script) entry []

abbrev pub idle_taken : ℕ → Rest → Panel → Option WaitingScript → Started
idle_taken id rest panel entry = (record panel { timers = without id panel.timers }, (script_in entry, without_event rest))

-- the timer that is due, or the first idle script of the round
abbrev pub start_rest : Rest → Panel → Started
start_rest Ends panel = (panel, ([], without_event Ends))
start_rest (Destroys window doomed paths) panel = (panel, ([], without_event (Destroys window doomed paths)))
start_rest (Rounds [] home) panel = timer_taken (Rounds [] home) panel (first_due panel.moment panel.timers.entries)
start_rest (Rounds (id ∷ ids) home) panel = idle_taken id (Rounds ids home) panel (entry_with id panel.timers.entries)

-- or the next script of the event under way
abbrev pub start_event : Option (List (List ℕ)) → Rest → Panel → Started
start_event (Some (script ∷ scripts)) rest panel = (panel, (script, record { event = Some scripts; rest = rest }))
start_event (Some []) rest panel = start_rest rest panel
start_event None rest panel = start_rest rest panel

abbrev pub start : Job → Panel → Started
start job panel = start_event job.event job.rest panel
