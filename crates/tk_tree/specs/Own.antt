-- Meaning. The windows of one application.
use Rattle.std.specs.Prelude.{◌<◌, ◌≤◌, ℕ, Bool, false, ◌==◌, ◌||◌, nat_le, List, [], ◌∷◌, length, find, filter, map, Option, MatchOption}
use Rattle.std.specs.Option.{option_map_or}
use Rattle.std.specs.Str.{bytes_eq}
use Rattle.tk_base.specs.Numbered.{numbered, without, changed_at, AllBelow, IsRising}
use Rattle.tk_tree.specs.declared.window.Window.{Window}
use Rattle.tk_tree.specs.Window.{number_of}

-- the number that comes next, and the windows in the order of creation, which is that of their numbers
pub record Tree : Type 0 where
  pub next_number : ℕ
  pub windows : List Window

-- the window with a number
abbrev pub window_at : ℕ → Tree → Option Window
window_at number own = numbered number_of number own.windows

-- the window of a path
abbrev pub at_path : List ℕ → Tree → Option Window
at_path path own = find (λ window. bytes_eq path window.path) own.windows

-- how many windows an application has at most
abbrev pub most_windows : ℕ
most_windows = 512

-- no more windows: as many as there can be are there, or the last number, 2^64 - 2, was given
abbrev pub is_full : Tree → Bool
is_full own = nat_le most_windows (length own.windows) || (own.next_number == 18446744073709551615)

-- the parent was made before the window
abbrev pub HasOlderParent : Window → Type 0
HasOlderParent window = MatchOption window.parent (Unit {0}) (λ parent. parent < window.number)

abbrev pub HaveOlderParents : List Window → Type 0
HaveOlderParents [] = Unit {0}
HaveOlderParents (window ∷ windows) = HasOlderParent window × HaveOlderParents windows

-- what holds of each application's part: numbers rise, each was given, parents are older than their children, and there are not too many windows
pub record IsSound (own : Tree) : Type 0 where
  pub rising : IsRising number_of own.windows
  pub below : AllBelow number_of own.next_number own.windows
  pub parents : HaveOlderParents own.windows
  pub few : length own.windows ≤ most_windows

-- ── what calls do to one application's part ──

-- the window with a number changed
abbrev pub with_change : ℕ → (Window → Window) → Tree → Tree
with_change number change own = record own { windows = changed_at number_of number change own.windows }

-- the window with a number gone
abbrev pub without_window : ℕ → Tree → Tree
without_window number own = record own { windows = without number_of number own.windows }

-- whether the window is a child of the one with this number
abbrev pub is_child_of : ℕ → Window → Bool
is_child_of number window = option_map_or (λ parent. parent == number) window.parent false

-- the numbers of the children of the window with this number, in the order of creation
abbrev pub child_numbers : ℕ → List Window → List ℕ
child_numbers number windows = map number_of (filter (is_child_of number) windows)
