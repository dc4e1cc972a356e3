-- Steps. What all applications have waiting, and one's part of it.
use Rattle.std.specs.Prelude.{◌≡◌, ◌≢◌, ℕ, ◌+◌, ◌≤◌, List, [], ◌∷◌, length, All, Contains}
use Rattle.tk_base.specs.Bag.{Item, listed}
use Rattle.tk_base.specs.declared.counter.Counter.{Counter}
use Rattle.tk_after.specs.declared.waiting.WaitingScript.{WaitingScript}
use Rattle.tcl_text.specs.Limits.{most_waiting}
use Rattle.tk_base.specs.Counters.{next_of}
use Rattle.tk_after.specs.Timers.{Timers, due_moments}

-- all applications' parts: each one's counter, and the entries in any order
pub record Held : Type 0 where
  pub counters : List (ℕ × Counter)
  pub bag : List (Item WaitingScript)

-- what one application has, in the order of numbers
abbrev pub entries_of : ℕ → Held → List WaitingScript
entries_of owner held = listed (λ entry. entry.id) owner held.bag

abbrev pub own_of : ℕ → Held → Timers
own_of owner held = record { next_number = next_of owner held.counters; entries = entries_of owner held }

-- some application has a timer due at this moment, and none has one due before it
pub record IsNextDue (held : Held) (moment : ℕ) : Type 0 where
  pub owner : ℕ
  pub among : Contains (due_moments (entries_of owner held)) moment
  pub least : (other : ℕ) → All (λ its_due. moment ≤ its_due) (due_moments (entries_of other held))

-- every application but one has what it had
abbrev pub LeavesOthers : ℕ → Held → Held → Type 0
LeavesOthers owner old new = (other : ℕ) → other ≢ owner → own_of other new ≡ own_of other old

-- numbers rise along the list, from low on, and all have been given
abbrev pub IsNumbered : ℕ → List WaitingScript → ℕ → Type 0
IsNumbered low [] next_number = low ≤ next_number
IsNumbered low (entry ∷ entries) next_number = (low ≤ entry.id) × IsNumbered (entry.id + 1) entries next_number

pub record IsKept (own : Timers) : Type 0 where
  pub numbered : IsNumbered 0 own.entries own.next_number
  pub few : length own.entries ≤ most_waiting
