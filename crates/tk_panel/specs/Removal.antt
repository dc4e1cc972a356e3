-- Meaning. Which windows a path means, their marks, the event Destroy, and removal (destroy(n)).
use Rattle.std.specs.Prelude.{ℕ, List, [], ◌∷◌, Option, Some, None, length, ◌==◌, if◌then◌else◌}
use Rattle.std.specs.Option.{option_map_or}
use Rattle.tk_sequences.specs.declared.event.Event.{Event}
use Rattle.tk_sequences.specs.declared.event.EventKind.TheVariants.{Physical}
use Rattle.tk_sequences.specs.Event.{bare_event}
use Rattle.tk_inputs.specs.Inputs.{without_window}
use Rattle.tk_patterns.specs.Own.{without_tag}
use Rattle.tk_sequences.specs.declared.event_type.EventType.TheVariants.{Destroy}
use Rattle.tk_screen.specs.Own.{Windowing, without}
use Rattle.tk_tree.specs.declared.window.Window.{Window}
use Rattle.tk_tree.specs.Change.{dying}
use Rattle.tk_tree.specs.Orders.{post_order}
use Rattle.tk_tree.specs.Own.{Tree, at_path, child_numbers, window_at, with_change}
use Rattle.tk_panel.specs.Panel.{Panel}

-- ── which windows ──

-- Those that a path means: its window and all below it, each behind its children. None where there is no such window, or it is being destroyed already.
abbrev pub doomed_by : List ℕ → Panel → List ℕ
doomed_by path panel =
    option_map_or (λ window. if window.dying then [] else post_order window.number panel.windowing.tree) (at_path path panel.windowing.tree) []

-- these windows are being destroyed from now on
unfoldable pub all_dying : List ℕ → Tree → Tree
all_dying [] own = own
all_dying (number ∷ numbers) own = all_dying numbers (with_change number dying own)

abbrev pub all_dying_in : List ℕ → Windowing → Windowing
all_dying_in numbers windowing = record windowing { tree = all_dying numbers windowing.tree }

abbrev pub marked : List ℕ → Panel → Panel
marked numbers panel = record panel { windowing = all_dying_in numbers panel.windowing }

-- ── removal ──

-- a window goes, with its widget and its packing, and the bindings for its path with it; the main window has the keys if this one had them, and it is
-- neither under the pointer nor pressed any more
abbrev pub without_path : ℕ → List ℕ → Panel → Panel
without_path number path panel =
    record panel { windowing = without number panel.windowing; bindings = without_tag path panel.bindings; input = without_window number panel.input }

-- Children go before their parents, so once all of *Destroy* has ended none is left, as law `destroys` of tk_app says (clause `gone`).
abbrev pub removed_at : ℕ → Panel → Option Window → Panel
removed_at number panel None = panel
removed_at number panel (Some window) = if length (child_numbers number panel.windowing.tree.windows) == 0 then without_path number window.path panel else panel

-- the window with a number goes, if it is still there
unfoldable pub removed : ℕ → Panel → Panel
removed number panel = removed_at number panel (window_at number panel.windowing.tree)

-- ── the event Destroy ──

abbrev pub destroy_event : Window → ℕ → Event
destroy_event window moment = bare_event (Physical Destroy) window.number window.path moment
