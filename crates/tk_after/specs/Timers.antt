-- Meaning. Timers and idle scripts (after(n)): what one application has waiting.
use Rattle.std.specs.Prelude.{◌≡◌, ℕ, ◌+◌, ◌-◌, ◌^◌, ◌<◌, ◌≤◌, Bool, false, ◌||◌, ◌==◌, not, nat_le, if◌then◌else◌, List, [], ◌∷◌, ◌++◌, length, map, filter, find, min, All, Contains, Option, Some, None, is_none, option_and_then, IfSome}
use Rattle.std.specs.List.{filter_map}
use Rattle.std.specs.Option.{option_map_or}
use Rattle.tk_after.specs.declared.waiting.WaitingScript.{WaitingScript}
use Rattle.tcl_text.specs.Limits.{most_waiting}

-- what one application has waiting, in the order of its numbers, and the number that comes next
pub record Timers : Type 0 where
  pub next_number : ℕ
  pub entries : List WaitingScript

-- nothing was ever waiting
abbrev pub fresh : Timers
fresh = record { next_number = 0; entries = [] }

-- ---- one application

-- 256 are listed, or the last number, 2^64 - 2, was given
abbrev pub is_full : Timers → Bool
is_full own = nat_le most_waiting (length own.entries) || nat_le (2 ^ 64 - 1) own.next_number

-- one more at the end, with the next number; an idle script has no due moment
abbrev pub with_entry : Option ℕ → List ℕ → Timers → Timers
with_entry due script own =
    record own { next_number = own.next_number + 1; entries = own.entries ++ record { id = own.next_number; due = due; script = script } ∷ [] }

-- the one with this number, if it is listed
abbrev pub entry_with : ℕ → List WaitingScript → Option WaitingScript
entry_with id entries = find (λ entry. entry.id == id) entries

-- all but the one with this number
abbrev pub without : ℕ → Timers → Timers
without id own = record own { entries = filter (λ entry. not (entry.id == id)) own.entries }

-- the numbers that are listed, and those of them that are idle scripts
abbrev pub ids : List WaitingScript → List ℕ
ids entries = map (λ entry. entry.id) entries

abbrev pub idle_ids : List WaitingScript → List ℕ
idle_ids entries = ids (filter (λ entry. is_none entry.due) entries)

-- when the timers are due
abbrev pub due_moments : List WaitingScript → List ℕ
due_moments entries = filter_map (λ entry. entry.due) entries

-- the lesser of two numbers, of which there may be none
abbrev pub lesser : Option ℕ → Option ℕ → Option ℕ
lesser None other = other
lesser (Some x) other = Some (option_map_or (min x) other x)

-- the least of some numbers
abbrev pub least : List ℕ → Option ℕ
least [] = None
least (x ∷ xs) = lesser (Some x) (least xs)

-- a number that is among them, and that none is below
pub record IsLeastOf (xs : List ℕ) (m : ℕ) : Type 0 where
  pub among : Contains xs m
  pub least : All (λ x. m ≤ x) xs

-- whether it is a timer that is due at this very moment
abbrev pub is_due_at : ℕ → WaitingScript → Bool
is_due_at moment entry = option_map_or (λ due. due == moment) entry.due false

-- what runs first of what is due by a moment: of the timers with the earliest due moment the first made
abbrev pub first_due : ℕ → List WaitingScript → Option WaitingScript
first_due moment entries = option_and_then (λ due. if nat_le due moment then find (is_due_at due) entries else None) (least (due_moments entries))

-- a timer goes no later than another: it is due earlier, or at the same moment with a number that is no higher; idle scripts don't count
abbrev pub GoesBy : ℕ → ℕ → WaitingScript → Type 0
GoesBy due id other = IfSome other.due (λ its_due. (due ≤ its_due) × (due ≡ its_due → id ≤ other.id))

-- a timer with this number and script is listed and due by the moment, and goes no later than any that is listed
pub record IsFirstDue (moment : ℕ) (entries : List WaitingScript) (id : ℕ) (script : List ℕ) : Type 0 where
  pub due : ℕ
  pub in_time : due ≤ moment
  pub listed : Contains entries (record { id = id; due = Some due; script = script })
  pub least : All (GoesBy due id) entries

-- no timer is due by the moment
abbrev pub NothingDue : ℕ → List WaitingScript → Type 0
NothingDue moment entries = All (λ entry. IfSome entry.due (λ due. moment < due)) entries
