-- Meaning. A window and all below it, in two orders. In the list of an application's windows a child stands behind its parent, since it was made
-- later: so what is below a window is found in the list behind it.
use Rattle.std.specs.Prelude.{ℕ, List, [], ◌∷◌, ◌++◌, if◌then◌else◌}
use Rattle.tk_tree.specs.declared.window.Window.{Window}
use Rattle.tk_tree.specs.Own.{Tree, is_child_of}

-- the windows below the one with a number, each before its own children, and children in the order of creation
unfoldable pub below : ℕ → List Window → List ℕ
below number [] = []
below number (window ∷ windows) =
    if is_child_of number window then window.number ∷ below window.number windows ++ below number windows
    else below number windows

-- the window with a number, and those below it (pre-order)
abbrev pub subtree : ℕ → Tree → List ℕ
subtree number own = number ∷ below number own.windows

-- the windows below the one with a number, each behind its own children, and children in the order of creation
unfoldable pub below_first : ℕ → List Window → List ℕ
below_first number [] = []
below_first number (window ∷ windows) =
    if is_child_of number window then below_first window.number windows ++ window.number ∷ below_first number windows
    else below_first number windows

-- those below the window with a number, and then itself (post-order)
abbrev pub post_order : ℕ → Tree → List ℕ
post_order number own = below_first number own.windows ++ number ∷ []
