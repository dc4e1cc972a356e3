-- Steps. The windows that `destroy` names, one after another (destroy(n)). What they come to, `destroy_meaning` of tk_app says.
use Rattle.std.specs.Prelude.{ℕ, List, [], ◌∷◌, Option, Some, None}
use Rattle.tk_tree.specs.declared.window.Window.{Window}
use Rattle.tk_tree.specs.Own.{window_at}
use Rattle.tk_panel.specs.declared.job.Rest.TheVariants.{Destroys}
use Rattle.tk_panel.specs.Choice.{chosen}
use Rattle.tk_panel.specs.Panel.{Panel}
unfoldable pub use Rattle.tk_panel.specs.Removal.{all_dying, removed}
pub use Rattle.tk_panel.specs.Removal.{all_dying_in, destroy_event, doomed_by, marked, removed_at, without_path}
use Rattle.tk_panel.specs.Settle.{Next}

-- ── the event is dispatched ──

abbrev pub destroy_at : Panel → Option Window → Panel × List (List ℕ)
destroy_at panel None = (panel, [])
destroy_at panel (Some window) = chosen (destroy_event window panel.moment) panel

-- the scripts of the Destroy event of the window with a number, if it is still there
abbrev pub destroy_chosen : ℕ → Panel → Panel × List (List ℕ)
destroy_chosen number panel = destroy_at panel (window_at number panel.windowing.tree)

-- ── one after another ──

-- the window whose Destroy event has scripts, with these, and the windows behind it
pub record Doomed : Type 0 where
  pub panel : Panel
  pub found : Option (ℕ × List (List ℕ))
  pub rest : List ℕ

abbrev pub or_removed : ℕ → List ℕ → (Panel → Doomed) → Panel → List (List ℕ) → Doomed
or_removed number numbers later panel [] = later (removed number panel)
or_removed number numbers later panel (script ∷ scripts) = record { panel = panel; found = Some (number, script ∷ scripts); rest = numbers }

-- Windows up to one whose Destroy event has scripts: those before it are gone.
unfoldable pub next_doomed : List ℕ → Panel → Doomed
next_doomed [] panel = record { panel = panel; found = None; rest = [] }
next_doomed (number ∷ numbers) panel =
    (let there : Panel × List (List ℕ) = destroy_chosen number panel in or_removed number numbers (next_doomed numbers) there.0 there.1)

-- the scripts of a window's Destroy event are next, or what comes behind the windows
abbrev pub on_doomed : List (List ℕ) → (Panel → Next) → Panel → List ℕ → Option (ℕ × List (List ℕ)) → Next
on_doomed paths later panel rest None = later panel
on_doomed paths later panel rest (Some found) = (panel, Some (record { event = Some found.1; rest = Destroys (Some found.0) rest paths }))

abbrev pub doomed_next : List (List ℕ) → (Panel → Next) → List ℕ → Panel → Next
doomed_next paths later numbers panel = (let doomed : Doomed = next_doomed numbers panel in on_doomed paths later doomed.panel doomed.rest doomed.found)

-- a path is looked up when those before it are done
unfoldable pub destroys : List (List ℕ) → Panel → Next
destroys [] panel = (panel, None)
destroys (path ∷ paths) panel = (let numbers : List ℕ = doomed_by path panel in doomed_next paths (destroys paths) numbers (marked numbers panel))

-- the window whose Destroy event was under way goes first
abbrev pub without_last : Option ℕ → Panel → Panel
without_last None panel = panel
without_last (Some number) panel = removed number panel

abbrev pub destroy_next : Option ℕ → List ℕ → List (List ℕ) → Panel → Next
destroy_next window numbers paths panel = doomed_next paths (destroys paths) numbers (without_last window panel)
