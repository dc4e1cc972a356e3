-- Steps. The arena's places as a bag, and what the index says of them.
use Rattle.std.specs.Prelude.{◌≡◌, ℕ, List, [], ◌∷◌, length, Option, None, Some, slice_index_or}
use Rattle.tk_base.specs.Bag.{Item, listed}
use Rattle.tk_base.specs.declared.counter.Counter.{Counter}
use Rattle.tk_tree.specs.declared.index.PathIndex.{PathIndex}
use Rattle.tk_tree.specs.declared.windows.Node.{Node}
use Rattle.tk_tree.specs.declared.window.Window.{Window}
use Rattle.tk_tree.specs.Index.{key_at, number_at, children_at}
use Rattle.tk_tree.specs.Own.{child_numbers, IsSound}
use Rattle.tk_tree.specs.Shared.{Held, own_of, windows_of}
use Rattle.tk_tree.specs.Window.{number_of}
use Rattle.tk_base.specs.Counters.{count_of}

abbrev pub item_of : Node → Item Window
item_of node = record { owner = node.owner; value = node.window }

-- what stands at some places
abbrev pub bag_of : List (Option Node) → List (Item Window)
bag_of [] = []
bag_of (None ∷ slots) = bag_of slots
bag_of (Some node ∷ slots) = item_of node ∷ bag_of slots

abbrev pub held_by : List (Option Node) → List (ℕ × Counter) → Held
held_by slots counters = record { counters = counters; bag = bag_of slots }

abbrev pub at : List (Option Node) → ℕ → Option Node
at slots key = slice_index_or slots key None

-- a place that holds an application's window with a number
pub record HoldsNumber (slots : List (Option Node)) (owner number key : ℕ) : Type 0 where
  pub node : Node
  pub there : at slots key ≡ Some node
  pub its_owner : node.owner ≡ owner
  pub its_number : node.window.number ≡ number

-- a place that holds an application's window with a path and a number
pub record HoldsPath (slots : List (Option Node)) (owner : ℕ) (path : List ℕ) (number : ℕ) : Type 0 where
  pub key : ℕ
  pub node : Node
  pub there : at slots key ≡ Some node
  pub its_owner : node.owner ≡ owner
  pub its_path : node.window.path ≡ path
  pub its_number : node.window.number ≡ number

-- the index has what stands in the arena, and nothing else
pub record IsIndexed (index : PathIndex) (slots : List (Option Node)) : Type 0 where
  pub keys_found : (owner number key : ℕ) → key_at index owner number ≡ Some key → HoldsNumber slots owner number key
  pub keys_all : (key : ℕ) (node : Node) → at slots key ≡ Some node → key_at index node.owner node.window.number ≡ Some key
  pub numbers_found : (owner : ℕ) (path : List ℕ) (number : ℕ) → number_at index owner path ≡ Some number → HoldsPath slots owner path number
  pub numbers_all : (key : ℕ) (node : Node) → at slots key ≡ Some node → number_at index node.owner node.window.path ≡ Some node.window.number
  pub children_are : (owner number : ℕ) → children_at index owner number ≡ child_numbers number (listed number_of owner (bag_of slots))

-- what holds of the arena, its index and the counters
pub record IsKept (index : PathIndex) (slots : List (Option Node)) (counters : List (ℕ × Counter)) : Type 0 where
  pub indexed : IsIndexed index slots
  pub sound : (owner : ℕ) → IsSound (own_of owner (held_by slots counters))
  pub counted : (owner : ℕ) → count_of owner counters ≡ length (windows_of owner (held_by slots counters))
