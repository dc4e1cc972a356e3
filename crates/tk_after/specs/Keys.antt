-- Steps. The entries of all applications in the order of their keys, and what one application has among them.
use Rattle.std.specs.Prelude.{◌≡◌, ℕ, ◌^◌, ◌<◌, Bool, false, ◌==◌, List, ◌++◌, length, map, Option, Some, None, IfSome}
use Rattle.std.specs.BTreeMap.{insert_entry, is_at}
use Rattle.std.specs.List.{AllByRecursion}
use Rattle.std.specs.List.Sorted.{IsStrictlySortedBy}
use Rattle.std.specs.Map.{keys_of, lookup, remove_entry}
use Rattle.std.specs.Option.{option_map_or}
use Rattle.std.specs.declared.cmp.Ordering.{Ordering}
use Rattle.std.specs.Ordering.{nat_cmp, ordering_then}
use Rattle.tk_base.specs.Bag.{Item, listed, values_of}
use Rattle.tk_base.specs.declared.counter.Counter.{Counter}
use Rattle.tk_after.specs.declared.waiting.WaitingScript.{WaitingScript}
use Rattle.tk_after.specs.declared.keys.DueKey.{DueKey}
use Rattle.tk_after.specs.declared.keys.Name.{Name}
use Rattle.tk_after.specs.Timers.{entry_with}
use Rattle.tk_after.specs.Shared.{Held, own_of, IsKept}
use Rattle.tk_base.specs.Counters.{count_of}

-- ---- keys

-- by the moment, then the application, then the number
abbrev pub due_cmp : DueKey → DueKey → Ordering
due_cmp a b = ordering_then (nat_cmp a.due b.due) (ordering_then (nat_cmp a.owner b.owner) (nat_cmp a.id b.id))

-- by the application, then the number
abbrev pub name_cmp : Name → Name → Ordering
name_cmp a b = ordering_then (nat_cmp a.owner b.owner) (nat_cmp a.id b.id)

abbrev pub due_key : ℕ → ℕ → ℕ → DueKey
due_key due owner id = record { due = due; owner = owner; id = id }

abbrev pub name : ℕ → ℕ → Name
name owner id = record { owner = owner; id = id }

-- ---- timers and idle scripts

-- the timers by when they are due, and the idle scripts, each under its key
pub record Stored : Type 0 where
  pub timers : List (DueKey × WaitingScript)
  pub idle : List (Name × WaitingScript)

abbrev pub number_of : WaitingScript → ℕ
number_of entry = entry.id

abbrev pub timer_item : DueKey × WaitingScript → Item WaitingScript
timer_item timer = record { owner = timer.0.owner; value = timer.1 }

abbrev pub idle_item : Name × WaitingScript → Item WaitingScript
idle_item idle = record { owner = idle.0.owner; value = idle.1 }

-- all entries, each with its application
abbrev pub bag_of : Stored → List (Item WaitingScript)
bag_of stored = map timer_item stored.timers ++ map idle_item stored.idle

-- what one application has, in the order of numbers
abbrev pub entries_in : ℕ → Stored → List WaitingScript
entries_in owner stored = listed number_of owner (bag_of stored)

-- a timer stands under its own moment and number, an idle script under its own number
abbrev pub IsTimer : DueKey × WaitingScript → Type 0
IsTimer timer = (timer.0.id ≡ timer.1.id) × (timer.1.due ≡ Some timer.0.due)

abbrev pub IsIdle : Name × WaitingScript → Type 0
IsIdle idle = (idle.0.id ≡ idle.1.id) × (idle.1.due ≡ None)

abbrev pub AreKeyed : Stored → Type 0
AreKeyed stored = AllByRecursion IsTimer stored.timers × AllByRecursion IsIdle stored.idle

-- the entry with this number, if it is listed, is due then
abbrev pub IsMarked : ℕ → Option ℕ → List WaitingScript → Type 0
IsMarked id due entries = IfSome (entry_with id entries) (λ entry. entry.due ≡ due)

-- the entry under the key of this number and moment
abbrev pub stored_at : ℕ → ℕ → Option ℕ → Stored → Option WaitingScript
stored_at owner id (Some due) stored = lookup (is_at (due_cmp (due_key due owner id))) stored.timers
stored_at owner id None stored = lookup (is_at (name_cmp (name owner id))) stored.idle

-- an entry more, under its key
abbrev pub given : ℕ → ℕ → Option ℕ → WaitingScript → Stored → Stored
given owner id (Some due) entry stored = record stored { timers = insert_entry due_cmp stored.timers (due_key due owner id) entry }
given owner id None entry stored = record stored { idle = insert_entry name_cmp stored.idle (name owner id) entry }

-- all but the entry under this key
abbrev pub taken : ℕ → ℕ → Option ℕ → Stored → Stored
taken owner id (Some due) stored = record stored { timers = remove_entry (is_at (due_cmp (due_key due owner id))) stored.timers }
taken owner id None stored = record stored { idle = remove_entry (is_at (name_cmp (name owner id))) stored.idle }

-- ---- numbers

-- a number that is listed, and when it is due
pub record Mark : Type 0 where
  pub id : ℕ
  pub due : Option ℕ

abbrev pub mark_number : Mark → ℕ
mark_number mark = mark.id

abbrev pub mark_of : WaitingScript → Mark
mark_of entry = record { id = entry.id; due = entry.due }

-- whether it is a timer that is due at this very moment
abbrev pub lies_due_at : ℕ → Mark → Bool
lies_due_at moment mark = option_map_or (λ due. due == moment) mark.due false

abbrev pub mark_in : Name × Option ℕ → Mark
mark_in row = record { id = row.0.id; due = row.1 }

abbrev pub marks_in : List (Name × Option ℕ) → List Mark
marks_in rows = map mark_in rows

abbrev pub mark_item : Name × Option ℕ → Item Mark
mark_item row = record { owner = row.0.owner; value = mark_in row }

-- what one application has among them
abbrev pub marks_of : ℕ → List (Name × Option ℕ) → List Mark
marks_of owner rows = values_of owner (map mark_item rows)

-- its number is one of the machine
abbrev pub IsNumber : Name × Option ℕ → Type 0
IsNumber row = row.0.id < 2 ^ 64

-- they stand by application and number
abbrev pub AreMarks : List (Name × Option ℕ) → Type 0
AreMarks rows = IsStrictlySortedBy name_cmp (keys_of rows) × AllByRecursion IsNumber rows

-- ---- all together

abbrev pub held_by : Stored → List (ℕ × Counter) → Held
held_by stored counters = record { counters = counters; bag = bag_of stored }

-- each application's entries are numbered and few; they are counted, and the index has the number of each
pub record AreKept (stored : Stored) (rows : List (Name × Option ℕ)) (counters : List (ℕ × Counter)) : Type 0 where
  pub sound : (owner : ℕ) → IsKept (own_of owner (held_by stored counters))
  pub counted : (owner : ℕ) → count_of owner counters ≡ length (entries_in owner stored)
  pub listed : (owner : ℕ) → marks_of owner rows ≡ map mark_of (entries_in owner stored)
