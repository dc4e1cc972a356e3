-- A window that isn't there, and so isn't changed.
use Rattle.std.proofs.Common.{◌≡◌, ℕ, Bool, true, false, cond, List, [], ◌∷◌, refl, sym, ap}
use Rattle.std.specs.Prelude.{◌==◌, Some, is_some}
use Rattle.tk_base.specs.Numbered.{changed_at, numbered}
use Rattle.tk_tree.specs.declared.window.Window.{Window}
use Rattle.tk_tree.specs.Change.{dying}
use Rattle.tk_tree.specs.Own.{Tree, window_at, with_change}
use Rattle.tk_tree.specs.Window.{number_of}
use Rattle.tk_panel.specs.Destroy.{all_dying, marked}
use Rattle.tk_panel.specs.Panel.{Panel}

absent : (n : ℕ) (xs : List Window) → is_some (numbered number_of n xs) ≡ false → xs ≡ changed_at number_of n dying xs
absent n [] none = refl
absent n (x ∷ xs) none = by (number_of x == n) none (absent n xs)
  where
    by : (b : Bool) → is_some (cond b (Some x) (numbered number_of n xs)) ≡ false → (is_some (numbered number_of n xs) ≡ false → xs ≡ changed_at number_of n dying xs)
        → x ∷ xs ≡ cond b (dying x) x ∷ changed_at number_of n dying xs
    by true none later = cc
    by false none later = ap (λ ys. x ∷ ys) (later none)

pub unmarked : (number : ℕ) (own : Tree) → is_some (window_at number own) ≡ false → own ≡ with_change number dying own
unmarked number own none = ap (λ windows. record own { windows = windows }) (absent number own.windows none)

-- where no window is meant, nothing is marked
pub none_marked : (numbers : List ℕ) (panel : Panel) → numbers ≡ [] → panel ≡ marked numbers panel
unfolding all_dying
none_marked numbers panel is = ap (λ ns. marked ns panel) (sym is)
