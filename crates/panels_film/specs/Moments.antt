-- Meaning. Lines and their moments.
use Rattle.std.specs.Prelude.{ℕ, Bool, ◌==◌, nat_lt, List, Option, length, position, unwrap_or}
use Rattle.std.specs.List.{list_any}
use Rattle.tk_session.specs.declared.session.EventLine.{EventLine}

-- the number of the first line that is later than a moment
abbrev pub first_later : ℕ → List EventLine → Option ℕ
first_later moment events = position (λ (event : EventLine). nat_lt moment event.moment) events

-- how many lines come before that one: all where there is none
abbrev pub count_until : ℕ → List EventLine → ℕ
count_until moment events = unwrap_or (first_later moment events) (length events)

-- a line comes at a moment
abbrev pub comes_a_line : ℕ → List EventLine → Bool
comes_a_line moment events = list_any (λ (event : EventLine). event.moment == moment) events
