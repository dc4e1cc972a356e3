-- Steps. In the middle of a walk over the windows below one.
use Rattle.std.specs.Prelude.{ℕ, List, [], ◌∷◌, ◌++◌}
use Rattle.tk_tree.specs.declared.window.Window.{Window}
use Rattle.tk_tree.specs.Orders.{below, below_first}

-- some windows, each with what is below it
unfoldable pub all_below : List ℕ → List Window → List ℕ
all_below [] windows = []
all_below (number ∷ numbers) windows = number ∷ below number windows ++ all_below numbers windows

-- the same, each behind what is below it
unfoldable pub all_below_first : List ℕ → List Window → List ℕ
all_below_first [] windows = []
all_below_first (number ∷ numbers) windows = (below_first number windows ++ number ∷ []) ++ all_below_first numbers windows
