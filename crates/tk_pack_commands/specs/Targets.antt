-- Meaning. The windows that `pack` is to pack: the first of its words, and those after it that begin with a dot.
use Rattle.std.specs.Prelude.{ℕ, ◌+◌, Bool, false, ◌==◌, not, List, [], ◌∷◌, Option, None, Some, option_map, Result, Ok}
use Rattle.std.specs.List.{position_or_len}
use Rattle.tcl_text.specs.Answers.{◌>>=◌}
use Rattle.tk_tree.specs.Own.{Tree, at_path}
use Rattle.tk_tree.specs.declared.window.Window.{Window}
use Rattle.tk_pack_commands.specs.declared.targets.Found.{Found}
use Rattle.tk_pack_commands.specs.declared.targets.Target.{Target}
use Rattle.tk_pack_commands.specs.Faults.{is_top_level}
use Rattle.tk_tree.specs.Path.{bad_path}

abbrev pub begins_path : List ℕ → Bool
begins_path [] = false
begins_path (c ∷ cs) = c == 46

-- how many of the words name windows
unfoldable pub path_count : List (List ℕ) → ℕ
path_count [] = 0
path_count (first ∷ words) = 1 + position_or_len (λ word. not (begins_path word)) words

-- the window of a path (24), and its parent, if it has one
abbrev pub found_of : Window → Found
found_of window = record { number = window.number; parent = window.parent }

abbrev pub found_or_error : List ℕ → Option Found → Result Found (List ℕ)
found_or_error path (Some found) = Ok found
found_or_error path None = bad_path path

unfoldable pub window_in : List ℕ → Tree → Result Found (List ℕ)
window_in path tree = found_or_error path (option_map found_of (at_path path tree))

-- a window is packed in its parent, and the main window nowhere
abbrev pub in_master : ℕ → Option ℕ → Result Target (List ℕ)
in_master number (Some master) = Ok (record { master = master; number = number })
in_master number None = is_top_level

abbrev pub in_parent : Found → Result Target (List ℕ)
in_parent found = in_master found.number found.parent

unfoldable pub target_in : List ℕ → Tree → Result Target (List ℕ)
target_in path tree = do
  found ← window_in path tree
  in_parent found

abbrev pub targets_in : List (List ℕ) → Tree → Result (List Target) (List ℕ)
targets_in [] tree = Ok []
targets_in (path ∷ paths) tree = do
  first ← target_in path tree
  others ← targets_in paths tree
  Ok (first ∷ others)
