-- Steps. The class of a sequence, by which bindings and pairs are found.
use Rattle.std.specs.Prelude.{ℕ, ◌+◌, ◌*◌, ◌-◌, Bool, ◌==◌, nat_eq, List, [], length, Option, Some, None, slice_get, unwrap_or}
use Rattle.std.specs.Map.{lookup}
use Rattle.std.specs.Option.{option_map_or}
use Rattle.tk_base.specs.Names.{character_of}
use Rattle.tk_sequences.specs.declared.detail.Detail.{Detail}
use Rattle.tk_sequences.specs.declared.detail.Detail.TheVariants.{Key, Button}
use Rattle.tk_sequences.specs.declared.event_type.EventType.{EventType}
use Rattle.tk_sequences.specs.declared.sequence.Sequence.{Sequence}
use Rattle.tk_sequences.specs.declared.sequence.Sequence.TheVariants.{Physical, Virtual}
use Rattle.tk_sequences.specs.Types.{type_number}
use Rattle.tk_virtual.specs.declared.pair.Pair.{Pair}

-- the keys that type nothing are of one class
abbrev pub key_number : ℕ → ℕ
key_number key = option_map_or (λ character. 512 + character) (character_of key) 1

abbrev pub detail_number : Option Detail → ℕ
detail_number None = 0
detail_number (Some (Key key)) = key_number key
detail_number (Some (Button button)) = 256 + button

-- that of a type and a detail
abbrev pub class_number : EventType → Option Detail → ℕ
class_number type detail = type_number type * 1024 + detail_number detail

-- the class of a sequence is that of its last pattern; all virtual events are of one
abbrev pub sequence_class : Sequence → ℕ
sequence_class (Physical patterns) = option_map_or (λ pattern. class_number pattern.kind pattern.detail) (slice_get patterns (length patterns - 1)) 0
sequence_class (Virtual name) = 0

-- a pair's is that of its sequence
abbrev pub is_of_class : ℕ → Pair → Bool
is_of_class class pair = sequence_class pair.sequence == class

-- the pairs that are listed under a class
abbrev pub listed_in : ℕ → List (ℕ × List Pair) → List Pair
listed_in class classes = unwrap_or (lookup (nat_eq class) classes) []
