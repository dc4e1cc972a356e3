-- Meaning. What a host is given of an application.
use Rattle.std.specs.Prelude.{ℕ, Bool, false, ◌&&◌, ◌||◌, nat_le, List, [], ◌∷◌, length}
use Rattle.std.specs.List.{list_all}
use Rattle.std.specs.Str.{bytes_eq}
use Rattle.tk_alias.specs.Names.{is_command_name, most_aliases}
use Rattle.tk_base.specs.declared.rect.Rect.{Rect}
use Rattle.tk_base.specs.declared.budget.Budget.{Budget}
use Rattle.tk_app.specs.Spec.{Spec}

-- an application as a host is given it: what it is begun with, and where its upper left corner is on the screen
pub record Given (M : Type 0) : Type 0 where
  pub x : ℕ
  pub y : ℕ
  pub spec : Spec M

abbrev pub given : {M : Type 0} → List ℕ → Rect → List ℕ → Budget → List (List ℕ × M) → Given M
given name rect script budget aliases =
    record {
      x = rect.x;
      y = rect.y;
      spec = record { name = name; width = rect.width; height = rect.height; script = script; budget = budget; aliases = aliases };
    }

abbrev pub rect_of : {M : Type 0} → Given M → Rect
rect_of app = record { x = app.x; y = app.y; width = app.spec.width; height = app.spec.height }

-- one of the aliases has this name
abbrev pub is_served : {M : Type 0} → List ℕ → List (List ℕ × M) → Bool
is_served name [] = false
is_served name (alias ∷ aliases) = bytes_eq alias.0 name || is_served name aliases

-- two of them have one name
abbrev pub have_one_name : {M : Type 0} → List (List ℕ × M) → Bool
have_one_name [] = false
have_one_name (alias ∷ aliases) = is_served alias.0 aliases || have_one_name aliases

-- aliases that an application may have: at most 64, by names that commands may have
abbrev pub are_aliases : {M : Type 0} → List (List ℕ × M) → Bool
are_aliases aliases = nat_le (length aliases) most_aliases && list_all (λ alias. is_command_name alias.0) aliases
