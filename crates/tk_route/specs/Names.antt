-- Meaning. The names of applications, and the ranges of what an application is begun with.
use Rattle.std.specs.Prelude.{ℕ, ◌≤◌, Bool, false, IsTrue, ◌&&◌, ◌||◌, ◌==◌, nat_lt, List, [], ◌∷◌, length}
use Rattle.std.specs.Char.{is_ascii_alphabetic, is_ascii_alphanumeric}
use Rattle.std.specs.List.{list_all}
use Rattle.tk_base.specs.declared.budget.Budget.{Budget}
use Rattle.tk_base.specs.declared.rect.Rect.{Rect}
use Rattle.tk_route.specs.Limits.{most_name, most_steps}
use Rattle.tk_route.specs.Screen.{IsOnScreen}

abbrev pub is_name_byte : ℕ → Bool
is_name_byte byte = is_ascii_alphanumeric byte || byte == 95

-- a letter, then letters, digits and underscores, all ASCII, 32 in all at most
abbrev pub is_name : List ℕ → Bool
is_name [] = false
is_name (first ∷ rest) = is_ascii_alphabetic first && list_all is_name_byte rest && nat_lt (length rest) most_name

abbrev pub IsName : List ℕ → Type 0
IsName name = IsTrue (is_name name)

-- the ranges of an application's values
pub record IsAppInRange (name : List ℕ) (rect : Rect) (budget : Budget) : Type 0 where
  pub named : IsName name
  pub placed : IsOnScreen rect
  pub total_fits : budget.total ≤ most_steps
  pub refill_fits : budget.refill ≤ most_steps
