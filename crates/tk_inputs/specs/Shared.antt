-- Steps. What all applications keep of their input, and one's part of it.
use Rattle.std.specs.Prelude.{◌≡◌, ◌≢◌, ℕ, nat_eq, List, unwrap_or}
use Rattle.std.specs.Map.{lookup}
use Rattle.tk_dispatch.specs.Queue as queue_of
use Rattle.tk_inputs.specs.declared.inputs.Input.{Input}
use Rattle.tk_inputs.specs.Deliver.{Arrivals}
use Rattle.tk_inputs.specs.Inputs.{fresh}

-- all applications'
abbrev pub Held : Type 0
Held = List (ℕ × Input)

-- an application's
abbrev pub own_of : ℕ → Held → Input
own_of owner held = unwrap_or (lookup (nat_eq owner) held) fresh

-- every other application's are as before
abbrev pub LeavesOthers : ℕ → Held → Held → Type 0
LeavesOthers owner old new = (other : ℕ) → other ≢ owner → own_of other new ≡ own_of other old

-- every application's are as before
abbrev pub LeavesAll : Held → Held → Type 0
LeavesAll old new = (other : ℕ) → own_of other new ≡ own_of other old

-- an application's, with the events that wait for it
abbrev pub arrivals_of : ℕ → Held → queue_of.Held → Arrivals
arrivals_of slot inputs queue = record { input = own_of slot inputs; queue = queue_of.own_of slot queue }
