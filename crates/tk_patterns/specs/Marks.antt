-- Steps. For which types of events tags have bindings, told by marks that several tags and types may share.
use Rattle.std.specs.Prelude.{◌≡◌, ℕ, ◌-◌, ◌%◌, Bool, true, false, ◌&&◌, List, [], ◌∷◌, get_or, length, None, slice_get}
use Rattle.std.specs.Option.{option_map_or}
use Rattle.tk_patterns.specs.declared.binding.Binding.{Binding}
use Rattle.tk_patterns.specs.declared.type_marks.TypeMarks.{TypeMarks}
use Rattle.tk_patterns.specs.Filing.{filing_number}
use Rattle.tk_patterns.specs.Winner.{Pairs, winner}
use Rattle.tk_sequences.specs.declared.event.Event.{Event}
use Rattle.tk_sequences.specs.declared.sequence.Sequence.{Sequence}
use Rattle.tk_sequences.specs.declared.sequence.Sequence.TheVariants.{Physical, Virtual}
use Rattle.tk_sequences.specs.Types.{type_number}

-- where the mark of a tag and the number of a type stands
abbrev pub mark_of : List ℕ → ℕ → ℕ
mark_of tag type = filing_number tag type % 1024

abbrev pub has_mark : TypeMarks → List ℕ → ℕ → Bool
has_mark marks tag type = get_or marks.marks (mark_of tag type) false

-- the number of the type of the events that a sequence ends with; 0 stands for virtual events, and for no other type
abbrev pub last_type : Sequence → ℕ
last_type (Physical patterns) = option_map_or (λ pattern. type_number pattern.kind) (slice_get patterns (length patterns - 1)) 0
last_type (Virtual name) = 0

-- no binding of a tag wins for an event, whatever events came before and whatever virtual events stand for
abbrev pub HasNoWinner : Event → List Binding → List ℕ → Type 0
HasNoWinner event own tag = (history : List Event) (pairs : Pairs) → winner pairs tag event history own ≡ None

abbrev pub RunsNone : List (List ℕ) → Event → List Binding → Type 0
RunsNone [] event own = Unit {0}
RunsNone (tag ∷ tags) event own = HasNoWinner event own tag × RunsNone tags event own

-- each binding's tag and type have their mark
abbrev pub all_marked : TypeMarks → List Binding → Bool
all_marked marks [] = true
all_marked marks (binding ∷ own) = has_mark marks binding.tag (last_type binding.sequence) && all_marked marks own
