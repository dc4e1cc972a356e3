-- What events without scripts, layouts and removals leave of a panel: its moment, and what is on the screen.
use Rattle.std.proofs.Common.{◌≡◌, ℕ, Bool, true, false, cond, List, [], ◌∷◌, Option, Some, None, refl, ap, ◌∙◌}
use Rattle.std.specs.Prelude.{Ok, Err, length, ◌==◌, is_none, codes}
use Rattle.tcl_vars.specs.Store.{Store}
use Rattle.tk_dispatch.specs.Dispatch.{Chosen}
use Rattle.tk_packer.specs.declared.changes.PlaceChange.{PlaceChange}
use Rattle.tk_sequences.specs.declared.event.Event.{Event}
use Rattle.tk_screen.specs.Layout.{changes_due, laid_out_windowing}
use Rattle.tk_screen.specs.Own.{Windowing}
use Rattle.tk_app.proofs.Left.{laid_path}
use Rattle.tk_screen.proofs.Twice.{laid_twice, nothing_laid}
use Rattle.tk_tree.specs.declared.window.Window.{Window}
use Rattle.tk_tree.specs.Own.{IsSound, at_path, child_numbers, window_at}
use Rattle.tk_panel.specs.declared.job.Home.{Home}
use Rattle.tk_panel.specs.declared.job.Home.TheVariants.{Settle, Update, IdleTasks, LastLayout}
use Rattle.tk_panel.specs.declared.job.Job.{Job}
use Rattle.tk_panel.specs.declared.job.Rest.{Rest}
use Rattle.tk_panel.specs.declared.job.Rest.TheVariants.{Ends as NoRest, Destroys, Rounds}
use Rattle.tk_panel.specs.Changes.{laid_out, number_of, queued_at, with_events_of}
use Rattle.tk_panel.specs.Choice.{chosen, chosen_at, on_scripts, scripts_of}
use Rattle.tk_panel.specs.Destroy.{Doomed, destroy_at, destroy_chosen, destroy_event, destroys, doomed_by, doomed_next, marked, next_doomed, on_doomed, or_removed, removed, removed_at, without_last, without_path}
use Rattle.tk_panel.specs.Next.{next, next_event, next_rest}
use Rattle.tk_panel.specs.Panel.{Panel}
use Rattle.tk_panel.specs.Settle.{Next, after_layout, after_round, at_home, drained, idle_round, is_closed, is_due, on_event, on_round, on_timer, or_later, queue_or_round, still_waiting, tasks_round, turn, with_queue}
use Rattle.tk_commands.proofs.Drained.{drained_leaves, layout_leaves}
use Rattle.tk_after.specs.Timers.{idle_ids}

-- ── what is on the screen ──

-- the moment, and what is on the screen
record LeavesScreen (old new : Panel) : Type 0 where
  pub moment : new.moment ≡ old.moment
  pub windowing : new.windowing ≡ old.windowing

by_scripts : (event : Event) (panel : Panel) (scripts : Chosen) → LeavesScreen panel (on_scripts event panel scripts).0
by_scripts event panel (Ok scripts) = record { moment = refl; windowing = refl }
by_scripts event panel (Err text) = record { moment = refl; windowing = refl }

by_window : (event : Event) (panel : Panel) (window : Option Window) → LeavesScreen panel (chosen_at event panel window).0
by_window event panel None = record { moment = refl; windowing = refl }
by_window event panel (Some window) = by_scripts event panel (scripts_of event panel)

chosen_leaves : (event : Event) (panel : Panel) → LeavesScreen panel (chosen event panel).0
unfolding chosen
chosen_leaves event panel = by_window event panel (window_at event.number panel.windowing.tree)

pub chosen_screen : (event : Event) (panel : Panel) → (chosen event panel).0.windowing ≡ panel.windowing
chosen_screen event panel = (chosen_leaves event panel).windowing

pub chosen_moment : (event : Event) (panel : Panel) → (chosen event panel).0.moment ≡ panel.moment
chosen_moment event panel = (chosen_leaves event panel).moment

pub drained_screen : (events : List Event) (panel : Panel) → (drained events panel).0.windowing ≡ panel.windowing
unfolding drained
drained_screen [] panel = refl
drained_screen (event ∷ events) panel =
    let there : Panel × List (List ℕ) = chosen event (with_queue events panel) in
    by there.1 there.0 (chosen_screen event (with_queue events panel)) (drained_screen events there.0)
  where
    by : (scripts : List (List ℕ)) (after : Panel) → after.windowing ≡ panel.windowing → (drained events after).0.windowing ≡ after.windowing → (or_later (drained events) after scripts).0.windowing ≡ panel.windowing
    by [] after one later = later ∙ one
    by (script ∷ scripts) after one later = one

queued_screen : (change : PlaceChange) (panel : Panel) (window : Option Window) → (queued_at change panel window).windowing ≡ panel.windowing
queued_screen change panel None = refl
queued_screen change panel (Some window) = refl

changes_screen : (changes : List PlaceChange) (panel : Panel) → (with_events_of changes panel).windowing ≡ panel.windowing
unfolding with_events_of
changes_screen [] panel = refl
changes_screen (change ∷ changes) panel =
    let first : Panel = queued_at change panel (window_at (number_of change) panel.windowing.tree) in
    changes_screen changes first ∙ queued_screen change panel (window_at (number_of change) panel.windowing.tree)

pub laid_screen : (store : Store) (panel : Panel) → (laid_out store panel).windowing ≡ laid_out_windowing panel.windowing store
unfolding laid_out
laid_screen store panel = changes_screen (changes_due panel.windowing store) (record panel { windowing = laid_out_windowing panel.windowing store })

-- a layout that changes nothing leaves all as it is
pub nothing_to_lay : (store : Store) (panel : Panel) → changes_due panel.windowing store ≡ [] → laid_out store panel ≡ panel
unfolding laid_out with_events_of
nothing_to_lay store panel none =
    ap (λ changes. with_events_of changes (record panel { windowing = laid_out_windowing panel.windowing store })) none
    ∙ ap (λ (windowing : Windowing). record panel { windowing = windowing }) (nothing_laid panel.windowing store none)

-- where windows were laid out, and events have come that had no scripts, a layout changes nothing
pub nothing_again : (store : Store) (panel : Panel) → IsSound panel.windowing.tree
    → (let l : Panel = laid_out store panel in changes_due (drained l.queue l).0.windowing store ≡ [])
nothing_again store panel sound =
    let l : Panel = laid_out store panel in
    ap (λ (windowing : Windowing). changes_due windowing store) (drained_screen l.queue l ∙ laid_screen store panel) ∙ laid_twice panel.windowing store sound

-- ── whether there is a main window ──

pub same_closed : (old new : Panel) → new.windowing ≡ old.windowing → is_closed new ≡ is_closed old
same_closed old new same = ap (λ (windowing : Windowing). is_none (at_path (codes ".") windowing.tree)) same

pub laid_closed : (store : Store) (panel : Panel) → is_closed (laid_out store panel) ≡ is_closed panel
laid_closed store panel = ap (λ (windowing : Windowing). is_none (at_path (codes ".") windowing.tree)) (laid_screen store panel) ∙ laid_path panel.windowing store (codes ".")

-- ── the moment ──

removed_moment : (number : ℕ) (panel : Panel) → (removed number panel).moment ≡ panel.moment
unfolding removed
removed_moment number panel = by (window_at number panel.windowing.tree)
  where
    leaf : (window : Window) (b : Bool) → (cond b (without_path number window.path panel) panel).moment ≡ panel.moment
    leaf window true = refl
    leaf window false = refl

    by : (window : Option Window) → (removed_at number panel window).moment ≡ panel.moment
    by None = refl
    by (Some window) = leaf window (length (child_numbers number panel.windowing.tree.windows) == 0)

destroy_moment : (panel : Panel) (window : Option Window) → (destroy_at panel window).0.moment ≡ panel.moment
destroy_moment panel None = refl
destroy_moment panel (Some window) = (chosen_leaves (destroy_event window panel.moment) panel).moment

doomed_moment : (numbers : List ℕ) (panel : Panel) → (next_doomed numbers panel).panel.moment ≡ panel.moment
unfolding next_doomed
doomed_moment [] panel = refl
doomed_moment (number ∷ numbers) panel =
    let there : Panel × List (List ℕ) = destroy_chosen number panel in
    by there.1 there.0 (destroy_moment panel (window_at number panel.windowing.tree)) (doomed_moment numbers (removed number there.0))
  where
    by : (scripts : List (List ℕ)) (after : Panel) → after.moment ≡ panel.moment → (next_doomed numbers (removed number after)).panel.moment ≡ (removed number after).moment
        → (or_removed number numbers (next_doomed numbers) after scripts).panel.moment ≡ panel.moment
    by [] after one later = later ∙ removed_moment number after ∙ one
    by (script ∷ scripts) after one later = one

abbrev Stays : Panel → Next → Type 0
Stays panel there = there.0.moment ≡ panel.moment

doomed_stays : (paths : List (List ℕ)) (later : Panel → Next) → ((panel : Panel) → Stays panel (later panel)) → (numbers : List ℕ) (panel : Panel) → Stays panel (doomed_next paths later numbers panel)
doomed_stays paths later rest numbers panel = let doomed : Doomed = next_doomed numbers panel in by doomed.panel doomed.rest doomed.found (doomed_moment numbers panel)
  where
    by : (after : Panel) (left : List ℕ) (found : Option (ℕ × List (List ℕ))) → after.moment ≡ panel.moment → Stays panel (on_doomed paths later after left found)
    by after left None one = rest after ∙ one
    by after left (Some found) one = one

destroys_stay : (paths : List (List ℕ)) (panel : Panel) → Stays panel (destroys paths panel)
unfolding destroys
destroys_stay [] panel = refl
destroys_stay (path ∷ paths) panel = doomed_stays paths (destroys paths) (destroys_stay paths) (doomed_by path panel) (marked (doomed_by path panel) panel)

last_moment : (window : Option ℕ) (panel : Panel) → (without_last window panel).moment ≡ panel.moment
last_moment None panel = refl
last_moment (Some number) panel = removed_moment number panel

round_stays : (home : Home) (ids : List ℕ) (panel : Panel) → Stays panel (on_round home ids panel)
round_stays home [] panel = refl
round_stays home (id ∷ ids) panel = refl

event_stays : (home : Home) (otherwise : Panel → Next) → ((panel : Panel) → Stays panel (otherwise panel)) → (panel : Panel) (scripts : List (List ℕ)) → Stays panel (on_event home otherwise panel scripts)
event_stays home otherwise later panel [] = later panel
event_stays home otherwise later panel (script ∷ scripts) = refl

layout_stays : (home : Home) (store : Store) (panel : Panel) → Stays panel (after_layout home store panel)
unfolding queue_or_round
layout_stays home store panel =
    let l : Panel = laid_out store panel in
    let there : Panel × List (List ℕ) = drained l.queue l in
    event_stays home (idle_round home) (λ panel. round_stays home (idle_ids panel.timers.entries) panel) there.0 there.1 ∙ (drained_leaves l.queue l).moment ∙ (layout_leaves store panel).moment

timer_stays : (home : Home) (store : Store) (panel : Panel) → Stays panel (on_timer home (after_layout home store) panel)
timer_stays home store panel = by (is_due panel.moment panel.timers.entries)
  where
    by : (b : Bool) → Stays panel (cond b (panel, Some (record { event = None; rest = Rounds [] home })) (after_layout home store panel))
    by true = refl
    by false = layout_stays home store panel

turn_stays : (home : Home) (store : Store) (panel : Panel) → Stays panel (turn home store panel)
unfolding turn
turn_stays home store panel =
    let there : Panel × List (List ℕ) = drained panel.queue panel in
    event_stays home (on_timer home (after_layout home store)) (timer_stays home store) there.0 there.1 ∙ (drained_leaves panel.queue panel).moment

tasks_stay : (store : Store) (ids : List ℕ) (panel : Panel) → Stays panel (tasks_round store ids panel)
tasks_stay store [] panel = (layout_leaves store panel).moment
tasks_stay store (id ∷ ids) panel = refl

home_stays : (home : Home) (store : Store) (panel : Panel) → Stays panel (at_home home store panel)
home_stays Settle store panel = by (is_closed panel)
  where
    by : (b : Bool) → Stays panel (cond b (panel, None) (turn Settle store panel))
    by true = refl
    by false = turn_stays Settle store panel
home_stays Update store panel = turn_stays Update store panel
home_stays IdleTasks store panel = tasks_stay store (idle_ids (laid_out store panel).timers.entries) (laid_out store panel) ∙ (layout_leaves store panel).moment
home_stays LastLayout store panel = (layout_leaves store panel).moment

after_stays : (home : Home) (store : Store) (ids : List ℕ) (panel : Panel) → Stays panel (after_round home store ids panel)
after_stays home store [] panel = home_stays home store panel
after_stays home store (id ∷ ids) panel = refl

rest_stays : (rest : Rest) (store : Store) (panel : Panel) → Stays panel (next_rest rest store panel)
rest_stays NoRest store panel = refl
rest_stays (Destroys window doomed paths) store panel = doomed_stays paths (destroys paths) (destroys_stay paths) doomed (without_last window panel) ∙ last_moment window panel
rest_stays (Rounds ids home) store panel = after_stays home store (still_waiting ids panel.timers.entries) panel

event_next : (event : Option (List (List ℕ))) (rest : Rest) (store : Store) (panel : Panel) → Stays panel (next_event event rest store panel)
event_next (Some (script ∷ scripts)) rest store panel = refl
event_next (Some []) rest store panel = rest_stays rest store panel
event_next None rest store panel = rest_stays rest store panel

-- what comes next leaves the moment
pub next_moment : (job : Job) (store : Store) (panel : Panel) → (next job store panel).0.moment ≡ panel.moment
next_moment job store panel = event_next job.event job.rest store panel
