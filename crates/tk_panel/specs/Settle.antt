-- Steps. What comes next at a moment (after(n), update(n)): the first that exists of a queued event, a due timer, a layout that changes something, and
-- a round of the idle scripts that wait. What all of it comes to, `Settles` of tk_app says as an equation.
use Rattle.std.specs.Prelude.{ℕ, Bool, false, List, [], ◌∷◌, Option, Some, None, is_some, nat_le, if◌then◌else◌}
use Rattle.std.specs.Option.{option_map_or}
use Rattle.tcl_vars.specs.Store.{Store}
use Rattle.tk_after.specs.declared.waiting.WaitingScript.{WaitingScript}
use Rattle.tk_after.specs.Timers.{due_moments, entry_with, idle_ids, least}
use Rattle.tk_sequences.specs.declared.event.Event.{Event}
use Rattle.tk_panel.specs.declared.job.Job.{Job}
use Rattle.tk_panel.specs.declared.job.Home.{Home}
use Rattle.tk_panel.specs.declared.job.Home.TheVariants.{Settle, Update, IdleTasks, LastLayout}
use Rattle.tk_panel.specs.declared.job.Rest.TheVariants.{Rounds}
use Rattle.tk_panel.specs.Changes.{laid_out}
use Rattle.tk_panel.specs.Choice.{chosen}
use Rattle.tk_panel.specs.Panel.{Panel}
pub use Rattle.tk_panel.specs.Panel.{is_closed, with_queue}

-- What is left of an application, and the job whose next script waits for its step, if there is one; else the job has ended.
abbrev pub Next : Type 0
Next = Panel × Option Job

-- ── queued events ──

-- the scripts of an event, or where it has none those of the events behind it
abbrev pub or_later : (Panel → Panel × List (List ℕ)) → Panel → List (List ℕ) → Panel × List (List ℕ)
or_later later panel [] = later panel
or_later later panel (script ∷ scripts) = (panel, script ∷ scripts)

-- Queued events, one after another, up to one that has scripts: these.
unfoldable pub drained : List Event → Panel → Panel × List (List ℕ)
drained [] panel = (panel, [])
drained (event ∷ events) panel = (let there : Panel × List (List ℕ) = chosen event (with_queue events panel) in or_later (drained events) there.0 there.1)

-- ── what waits ──

-- a timer is due by a moment
abbrev pub is_due : ℕ → List WaitingScript → Bool
is_due moment entries = option_map_or (λ due. nat_le due moment) (least (due_moments entries)) false

-- the rest of a round, from the first idle script on that still waits
unfoldable pub still_waiting : List ℕ → List WaitingScript → List ℕ
still_waiting [] entries = []
still_waiting (id ∷ ids) entries = if is_some (entry_with id entries) then id ∷ ids else still_waiting ids entries

-- ── one before the other ──

-- an idle script of a round is next, if there is one
abbrev pub on_round : Home → List ℕ → Panel → Next
on_round home [] panel = (panel, None)
on_round home (id ∷ ids) panel = (panel, Some (record { event = None; rest = Rounds (id ∷ ids) home }))

-- the scripts of an event are next, if there are any
abbrev pub on_event : Home → (Panel → Next) → Panel → List (List ℕ) → Next
on_event home otherwise panel [] = otherwise panel
on_event home otherwise panel (script ∷ scripts) = (panel, Some (record { event = Some (script ∷ scripts); rest = Rounds [] home }))

-- queued events, if one of them has scripts
abbrev pub on_queue : Home → (Panel → Next) → Panel → Next
on_queue home otherwise panel = (let there : Panel × List (List ℕ) = drained panel.queue panel in on_event home otherwise there.0 there.1)

-- the timer that is due, if one is
abbrev pub on_timer : Home → (Panel → Next) → Panel → Next
on_timer home otherwise panel =
    if is_due panel.moment panel.timers.entries then (panel, Some (record { event = None; rest = Rounds [] home })) else otherwise panel

-- a round of the idle scripts that wait
abbrev pub idle_round : Home → Panel → Next
idle_round home panel = on_round home (idle_ids panel.timers.entries) panel

-- queued events, or else a round
unfoldable pub queue_or_round : Home → Panel → Next
queue_or_round home panel = on_queue home (idle_round home) panel

-- Layout takes no step, and what is laid out stays so until a script runs: so only what it has queued comes before the round.
abbrev pub after_layout : Home → Store → Panel → Next
after_layout home store panel = queue_or_round home (laid_out store panel)

unfoldable pub turn : Home → Store → Panel → Next
turn home store panel = on_queue home (on_timer home (after_layout home store)) panel

-- ── when a round has ended ──

-- the round of `update idletasks`, and then a layout more
abbrev pub tasks_round : Store → List ℕ → Panel → Next
tasks_round store [] panel = (laid_out store panel, None)
tasks_round store (id ∷ ids) panel = (panel, Some (record { event = None; rest = Rounds (id ∷ ids) LastLayout }))

abbrev pub tasks : Store → Panel → Next
tasks store panel = tasks_round store (idle_ids panel.timers.entries) panel

-- Settling has ended where there is no main window; `update` goes on then. `update idletasks` is a layout, a round and a layout.
abbrev pub at_home : Home → Store → Panel → Next
at_home Settle store panel = if is_closed panel then (panel, None) else turn Settle store panel
at_home Update store panel = turn Update store panel
at_home IdleTasks store panel = tasks store (laid_out store panel)
at_home LastLayout store panel = (laid_out store panel, None)

-- what is left of a round comes first
abbrev pub after_round : Home → Store → List ℕ → Panel → Next
after_round home store [] panel = at_home home store panel
after_round home store (id ∷ ids) panel = (panel, Some (record { event = None; rest = Rounds (id ∷ ids) home }))

abbrev pub rounds_next : List ℕ → Home → Store → Panel → Next
rounds_next ids home store panel = after_round home store (still_waiting ids panel.timers.entries) panel
