-- Steps. The transcripts of all applications, and one's part of them.
use Rattle.std.specs.Prelude.{◌≡◌, ◌≢◌, ℕ, nat_eq, List, []}
use Rattle.std.specs.Option.{option_map_or}
use Rattle.std.specs.Map.{lookup}
use Rattle.tk_panel.specs.declared.transcript.Line.{Line}

-- the transcript of each application that has written
abbrev pub Written : Type 0
Written = List (ℕ × List Line)

-- the lines of one application, in order
abbrev pub lines_of : ℕ → Written → List Line
lines_of owner written = option_map_or (λ own. own) (lookup (nat_eq owner) written) []

-- every other application's are as before
abbrev pub LeavesLines : ℕ → Written → Written → Type 0
LeavesLines owner old new = (other : ℕ) → other ≢ owner → lines_of other new ≡ lines_of other old

-- every application's are as before
abbrev pub LeavesAllLines : Written → Written → Type 0
LeavesAllLines old new = (other : ℕ) → lines_of other new ≡ lines_of other old
