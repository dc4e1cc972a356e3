-- Steps. What comes next of a job.
use Rattle.std.specs.Prelude.{ℕ, List, [], ◌∷◌, Option, Some, None}
use Rattle.tcl_vars.specs.Store.{Store}
use Rattle.tk_panel.specs.declared.job.Job.{Job}
use Rattle.tk_panel.specs.declared.job.Rest.{Rest}
use Rattle.tk_panel.specs.declared.job.Rest.TheVariants.{Ends, Destroys, Rounds}
use Rattle.tk_panel.specs.Destroy.{destroy_next}
use Rattle.tk_panel.specs.Panel.{Panel}
use Rattle.tk_panel.specs.Settle.{Next, rounds_next}

-- where no event is under way
abbrev pub next_rest : Rest → Store → Panel → Next
next_rest Ends store panel = (panel, None)
next_rest (Destroys window doomed paths) store panel = destroy_next window doomed paths panel
next_rest (Rounds ids home) store panel = rounds_next ids home store panel

-- the scripts of the event under way come first
abbrev pub next_event : Option (List (List ℕ)) → Rest → Store → Panel → Next
next_event (Some (script ∷ scripts)) rest store panel = (panel, Some (record { event = Some (script ∷ scripts); rest = rest }))
next_event (Some []) rest store panel = next_rest rest store panel
next_event None rest store panel = next_rest rest store panel

abbrev pub next : Job → Store → Panel → Next
next job store panel = next_event job.event job.rest store panel
