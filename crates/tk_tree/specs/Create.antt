-- Meaning. What `create` answers and does.
use Rattle.std.specs.Prelude.{ℕ, ◌+◌, List, [], ◌∷◌, ◌++◌, Option, None, Some, is_some, option_map, option_and_then, if◌then◌else◌, codes}
use Rattle.std.specs.Option.{option_or}
use Rattle.std.specs.Str.{bytes_eq}
use Rattle.tk_base.specs.declared.kind.Kind.{Kind}
use Rattle.tk_tree.specs.declared.fault.WindowFault.{WindowFault}
use Rattle.tk_tree.specs.declared.fault.WindowFault.TheVariants.{BadPath, BadName, Dying, Exists, Full}
use Rattle.tk_tree.specs.declared.window.Window.{Window}
use Rattle.tk_tree.specs.Own.{Tree, at_path, is_full}
use Rattle.tk_tree.specs.Path.{parent_and_name, begins_upper}
use Rattle.tk_tree.specs.Window.{new_window}

-- what refuses a name below a parent that is there, or isn't
abbrev pub child_refusal : List ℕ → Option Window → Option WindowFault
child_refusal name None = Some BadPath
child_refusal name (Some parent) = if begins_upper name then Some BadName else if parent.dying then Some Dying else None

-- what refuses a place below a parent's path
abbrev pub below_refusal : Tree → Option (List ℕ × List ℕ) → Option WindowFault
below_refusal own None = Some BadPath
below_refusal own (Some parts) = child_refusal parts.1 (at_path parts.0 own)

-- what refuses the place that a path names: 24, 26 or 27
abbrev pub place_refusal : List ℕ → Tree → Option WindowFault
place_refusal path own = if bytes_eq path (codes ".") then None else below_refusal own (parent_and_name path)

-- what refuses one more window at a path: 25 or 28
abbrev pub taken_refusal : List ℕ → Tree → Option WindowFault
taken_refusal path own = if is_some (at_path path own) then Some Exists else if is_full own then Some Full else None

-- what refuses a window: no path or no parent there (24), a name that begins with A to Z (26), a dying parent (27), a path that is taken (25),
-- no more windows (28), the first of these that holds
abbrev pub refusal : List ℕ → Tree → Option WindowFault
refusal path own = option_or (place_refusal path own) (taken_refusal path own)

-- the number of the parent that a path names; none for `.`
abbrev pub parent_number : List ℕ → Tree → Option ℕ
parent_number path own = option_map (λ parent. parent.number) (option_and_then (λ parts. at_path parts.0 own) (parent_and_name path))

-- one window more, the last, under the next number
abbrev pub with_window : List ℕ → Kind → Option ℕ → Tree → Tree
with_window path kind parent own = record {
  next_number = own.next_number + 1;
  windows = own.windows ++ new_window own.next_number path kind parent ∷ [];
}
