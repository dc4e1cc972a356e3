-- Steps. The window that words name.
use Rattle.std.specs.Prelude.{◌≡◌, ℕ, IfSome, List, [], ◌∷◌}
use Rattle.tk_tree.specs.Own.{Tree, at_path}

-- the first word, if there is one, is the path of a window with this number, if it is there
abbrev pub IsNumbered : ℕ → List (List ℕ) → Tree → Type 0
IsNumbered number [] tree = Unit {0}
IsNumbered number (path ∷ words) tree = IfSome (at_path path tree) (λ window. number ≡ window.number)
