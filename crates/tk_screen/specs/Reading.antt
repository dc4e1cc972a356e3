-- Steps. Shapes that were read from an application's windows.
use Rattle.std.specs.Prelude.{◌≡◌, ◌≢◌, ℕ, List, [], ◌∷◌, Some}
use Rattle.tk_packer.specs.declared.shape.Shape.{Shape}
use Rattle.tk_tree.specs.Own.{Tree, window_at}
use Rattle.tk_tree.specs.declared.window.Window.{Window}

-- the window of a shape's number is there, and lies and is mapped as the shape says
pub record IsRead (own : Tree) (shape : Shape) : Type 0 where
  pub window : Window
  pub there : window_at shape.number own ≡ Some window
  pub rectangle : window.rectangle ≡ shape.rectangle
  pub mapped : window.mapped ≡ shape.mapped

unfoldable pub AllRead : Tree → List Shape → Type 0
AllRead own [] = Unit {0}
AllRead own (shape ∷ shapes) = IsRead own shape × AllRead own shapes

-- none of the shapes has the number
unfoldable pub IsOfNone : ℕ → List Shape → Type 0
IsOfNone number [] = Unit {0}
IsOfNone number (shape ∷ shapes) = (shape.number ≢ number) × IsOfNone number shapes

-- no two shapes have one number
unfoldable pub AreApart : List Shape → Type 0
AreApart [] = Unit {0}
AreApart (shape ∷ shapes) = IsOfNone shape.number shapes × AreApart shapes
