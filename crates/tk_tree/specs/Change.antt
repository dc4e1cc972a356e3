-- Meaning. What a window becomes.
use Rattle.std.specs.Prelude.{Bool, true, List, [], ◌∷◌, ℕ}
use Rattle.tk_base.specs.declared.rect.Rect.{Rect}
use Rattle.tk_tree.specs.declared.window.Window.{Window}
use Rattle.tk_tree.specs.Window.{default_tags}

-- a window that is being destroyed
abbrev pub dying : Window → Window
dying window = record window { dying = true }

-- these binding tags, or the default where there are none
abbrev pub tags_or_default : List (List ℕ) → Window → List (List ℕ)
tags_or_default [] window = default_tags window.path window.kind
tags_or_default (tag ∷ tags) window = tag ∷ tags

abbrev pub with_tags : List (List ℕ) → Window → Window
with_tags tags window = record window { tags = tags_or_default tags window }

abbrev pub with_place : Rect → Bool → Window → Window
with_place place mapped window = record window { rectangle = place; mapped = mapped }
