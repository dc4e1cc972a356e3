-- Steps. The virtual events of all applications, and one's part of them.
use Rattle.std.specs.Prelude.{◌≡◌, ◌≢◌, ℕ, nat_eq, List, [], unwrap_or}
use Rattle.std.specs.Map.{lookup}
use Rattle.tk_virtual.specs.declared.pair.Pair.{Pair}

abbrev pub Held : Type 0
Held = List (ℕ × List Pair)

-- an application's; one that hasn't been named has none
abbrev pub own_of : ℕ → Held → List Pair
own_of owner held = unwrap_or (lookup (nat_eq owner) held) []

-- every application but one has what it had
abbrev pub LeavesOthers : ℕ → Held → Held → Type 0
LeavesOthers owner old new = (other : ℕ) → other ≢ owner → own_of other new ≡ own_of other old
