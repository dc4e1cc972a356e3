-- Meaning. Where the corner of a window lies, from that of the application's rectangle: a window's place is told from its parent's corner.
use Rattle.std.specs.Prelude.{ℕ, sum_by}
use Rattle.std.specs.Option.{option_map_or}
use Rattle.tk_tree.specs.declared.corner.Corner.{Corner}
use Rattle.tk_tree.specs.declared.window.Window.{Window}
use Rattle.tk_tree.specs.Own.{Tree, window_at}
use Rattle.tk_tree.specs.Ways.{way_to}

-- what is asked of the window with a number; 0 where it is gone
abbrev pub asked : (Window → ℕ) → Tree → ℕ → ℕ
asked part own number = option_map_or part (window_at number own) 0

-- how far across and down a window lies in its parent
abbrev pub across : Tree → ℕ → ℕ
across = asked (λ window. window.rectangle.x)

abbrev pub down : Tree → ℕ → ℕ
down = asked (λ window. window.rectangle.y)

-- the places of the windows on the way to a window, added up
unfoldable pub corner : ℕ → Tree → Corner
corner number own = record { x = sum_by (across own) (way_to number own); y = sum_by (down own) (way_to number own) }
