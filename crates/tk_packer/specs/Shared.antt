-- Steps. What all applications have packed, and one's part of it.
use Rattle.std.specs.Prelude.{◌≡◌, ◌≢◌, ℕ, nat_eq, List, unwrap_or}
use Rattle.std.specs.Map.{lookup}
use Rattle.tk_packer.specs.Packs.{Packing, no_packs}

-- what each application has, by its number
abbrev pub Held : Type 0
Held = List (ℕ × Packing)

-- what one application has in a table
abbrev pub own_of : ℕ → Held → Packing
own_of owner held = unwrap_or (lookup (nat_eq owner) held) no_packs

-- every application but one has what it had
abbrev pub LeavesOthers : ℕ → Held → Held → Type 0
LeavesOthers owner old new = (other : ℕ) → other ≢ owner → own_of other new ≡ own_of other old
