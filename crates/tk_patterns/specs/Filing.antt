-- Steps. Under which numbers a binding is filed, and under which the candidates of an event are.
use Rattle.std.specs.Prelude.{ℕ, ◌+◌, ◌*◌, ◌%◌, ◌^◌, Bool, false, ◌&&◌, ◌||◌, ◌==◌, nat_le, is_some, List, [], length, filter, fold, Option, Some, None, if◌then◌else◌, ◌∷◌}
use Rattle.std.specs.BTreeSet.{insert_key}
use Rattle.std.specs.List.{list_any}
use Rattle.std.specs.Ordering.{nat_cmp}
use Rattle.std.specs.Str.{bytes_eq}
use Rattle.tk_base.specs.Names.{character_of, name_of}
use Rattle.tk_sequences.specs.declared.event.Event.{Event}
use Rattle.tk_patterns.specs.declared.binding.Binding.{Binding}
use Rattle.tk_patterns.specs.declared.filed.Filed.{Filed}
use Rattle.tk_patterns.specs.declared.filed.Numbers.{Numbers}
use Rattle.tk_patterns.specs.Filed.{has_whole, stamps_of}
use Rattle.tk_sequences.specs.declared.detail.Detail.{Detail}
use Rattle.tk_sequences.specs.declared.detail.Detail.TheVariants.{Key, Button}
use Rattle.tk_sequences.specs.declared.event_type.EventType.{EventType}
use Rattle.tk_sequences.specs.declared.sequence.Sequence.{Sequence}
use Rattle.tk_sequences.specs.declared.sequence.Sequence.TheVariants.{Physical, Virtual}
use Rattle.tk_sequences.specs.declared.pattern.Pattern.{Pattern}
use Rattle.tk_sequences.specs.Patterns.{times_of}
use Rattle.tk_virtual.specs.Classes.{class_number, sequence_class, is_of_class}
use Rattle.tk_virtual.specs.declared.pair.Pair.{Pair}

abbrev pub mixed : ℕ → ℕ → ℕ
mixed number part = (number * 1099511628211 % 2 ^ 64 + part) % 2 ^ 64

-- the number of a tag and a class; others may have the same
abbrev pub filing_number : List ℕ → ℕ → ℕ
filing_number tag class = fold mixed class tag

-- a tag's bindings for virtual events are all of one class
abbrev pub number_of : Binding → ℕ
number_of binding = filing_number binding.tag (sequence_class binding.sequence)

-- keys that type nothing have one class, and are told apart by their names
abbrev pub with_detail : ℕ → Option Detail → ℕ
with_detail number (Some (Key key)) = if is_some (character_of key) then number else filing_number (name_of key) number
with_detail number (Some (Button button)) = number
with_detail number None = number

-- the number of a whole sequence: of each pattern its modifiers, its repetition, its class and what tells its key from others of the class
abbrev pub with_pattern : ℕ → Pattern → ℕ
with_pattern number pattern =
    with_detail (mixed (mixed (mixed number pattern.modifiers) (times_of pattern.times)) (class_number pattern.kind pattern.detail)) pattern.detail

abbrev pub sequence_number : Sequence → ℕ
sequence_number (Physical patterns) = fold with_pattern 0 patterns
sequence_number (Virtual name) = filing_number name 0

abbrev pub whole_number : Binding → ℕ
whole_number binding = filing_number binding.tag (sequence_number binding.sequence)

abbrev pub filed_under : Binding → Numbers
filed_under binding = record { class = number_of binding; whole = whole_number binding }

-- that of a tag's binding of a virtual event
abbrev pub name_number : List ℕ → List ℕ → ℕ
name_number tag name = filing_number tag (filing_number name 0)

-- the classes of the sequences that may match: those for the event's key, for its button, and for any
abbrev pub is_number : List ℕ → EventType → Option Detail → ℕ → Bool
is_number tag type detail number = number == filing_number tag (class_number type detail)

abbrev pub is_number_of_key : List ℕ → EventType → Option ℕ → ℕ → Bool
is_number_of_key tag type None number = false
is_number_of_key tag type (Some key) number = is_number tag type (Some (Key key)) number

abbrev pub is_number_of_button : List ℕ → EventType → Option ℕ → ℕ → Bool
is_number_of_button tag type None number = false
is_number_of_button tag type (Some button) number = is_number tag type (Some (Button button)) number

-- those for the event's key, for its button, and for any
abbrev pub is_of_event : List ℕ → EventType → Event → ℕ → Bool
is_of_event tag type event number = (is_number_of_key tag type event.key number || is_number_of_button tag type event.button number) || is_number tag type None number

-- the pairs of virtual events that are of these classes
abbrev pub pairs_of_key : EventType → Option ℕ → List Pair → List Pair
pairs_of_key type key pairs = filter (λ pair. is_number_of_key [] type key (sequence_class pair.sequence)) pairs

abbrev pub pairs_of_button : EventType → Option ℕ → List Pair → List Pair
pairs_of_button type button pairs = filter (λ pair. is_number_of_button [] type button (sequence_class pair.sequence)) pairs

abbrev pub pairs_of_any : EventType → List Pair → List Pair
pairs_of_any type pairs = filter (is_of_class (class_number type None)) pairs

-- the names of these are sought
abbrev pub is_named : List ℕ → List Pair → ℕ → Bool
is_named tag pairs number = list_any (λ pair. number == name_number tag pair.name) pairs

-- ── the bindings of an event, by what they are filed under ──
abbrev pub is_for_key : List ℕ → EventType → Option ℕ → Numbers → Bool
is_for_key tag type key numbers = is_number_of_key tag type key numbers.class

abbrev pub is_for_button : List ℕ → EventType → Option ℕ → Numbers → Bool
is_for_button tag type button numbers = is_number_of_button tag type button numbers.class

abbrev pub is_for_any : List ℕ → EventType → Numbers → Bool
is_for_any tag type numbers = is_number tag type None numbers.class

-- those for all virtual events
abbrev pub is_virtual : List ℕ → Numbers → Bool
is_virtual tag numbers = numbers.class == filing_number tag 0

-- those for the virtual events that have pairs of the event's classes
abbrev pub is_for_names : List ℕ → EventType → Event → List Pair → Numbers → Bool
is_for_names tag type event pairs numbers =
    (is_named tag (pairs_of_key type event.key pairs) numbers.whole || is_named tag (pairs_of_button type event.button pairs) numbers.whole)
    || is_named tag (pairs_of_any type pairs) numbers.whole

-- so many are at most as many as the pairs of one of the event's classes
abbrev pub are_few : ℕ → EventType → Event → List Pair → Bool
are_few count type event pairs =
    (nat_le count (length (pairs_of_key type event.key pairs)) || nat_le count (length (pairs_of_button type event.button pairs)))
    || nat_le count (length (pairs_of_any type pairs))

abbrev pub has_few : List ℕ → EventType → Event → List Pair → List Filed → Bool
has_few tag type event pairs filed = are_few (length (stamps_of (is_virtual tag) filed)) type event pairs

-- where a tag has few for virtual events all of them are gone through; else each name is looked up
abbrev pub is_for_virtuals : Bool → List ℕ → EventType → Event → List Pair → Numbers → Bool
is_for_virtuals few tag type event pairs numbers = if few then is_virtual tag numbers else is_for_names tag type event pairs numbers

abbrev pub is_sought : Bool → List ℕ → EventType → Event → List Pair → Numbers → Bool
is_sought few tag type event pairs numbers =
    (is_for_key tag type event.key numbers || is_for_button tag type event.button numbers)
    || (is_for_any tag type numbers || is_for_virtuals few tag type event pairs numbers)

-- the event's key, or its button
abbrev pub detail_of : Option ℕ → Option ℕ → Option Detail
detail_of (Some key) button = Some (Key key)
detail_of None (Some button) = Some (Button button)
detail_of None None = None

abbrev pub has_both : Option ℕ → Option ℕ → Bool
has_both key button = is_some key && is_some button

-- ── several lists of stamps, as one that rises ──
abbrev pub with_stamps : List ℕ → List ℕ → List ℕ
with_stamps keys stamps = fold (insert_key nat_cmp) keys stamps

abbrev pub with_named : List ℕ → List Filed → List ℕ → Pair → List ℕ
with_named tag filed keys pair = with_stamps keys (stamps_of (has_whole (name_number tag pair.name)) filed)

abbrev pub all_named : List ℕ → List Filed → List ℕ → List Pair → List ℕ
all_named tag filed keys pairs = fold (with_named tag filed) keys pairs

-- a pair has the name that came last
abbrev pub is_repeat : Option (List ℕ) → Pair → Bool
is_repeat None pair = false
is_repeat (Some name) pair = bytes_eq pair.name name

-- of pairs of one name that stand together the first
abbrev pub without_repeats : Option (List ℕ) → List Pair → List Pair
without_repeats last [] = []
without_repeats last (pair ∷ pairs) = if is_repeat last pair then without_repeats last pairs else pair ∷ without_repeats (Some pair.name) pairs
