-- Steps. The windows of all applications, and one's part of them.
use Rattle.std.specs.Prelude.{◌≡◌, ◌≢◌, ℕ, List}
use Rattle.tk_base.specs.Bag.{Item, listed}
use Rattle.tk_base.specs.declared.counter.Counter.{Counter}
use Rattle.tk_tree.specs.declared.window.Window.{Window}
use Rattle.tk_tree.specs.Window.{number_of}
use Rattle.tk_base.specs.Counters.{next_of}
use Rattle.tk_tree.specs.Own.{Tree}

-- all applications' parts: each one's counter, and the windows in any order
pub record Held : Type 0 where
  pub counters : List (ℕ × Counter)
  pub bag : List (Item Window)

abbrev pub windows_of : ℕ → Held → List Window
windows_of owner held = listed number_of owner held.bag

-- an application's part
abbrev pub own_of : ℕ → Held → Tree
own_of owner held = record { next_number = next_of owner held.counters; windows = windows_of owner held }

-- every other application's part is as before
abbrev pub LeavesOthers : ℕ → Held → Held → Type 0
LeavesOthers owner old new = (other : ℕ) → other ≢ owner → own_of other new ≡ own_of other old
