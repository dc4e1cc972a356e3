-- Meaning. Whose script runs for an event of a window with a tag (bind(n)).
use Rattle.std.specs.Prelude.{ℕ, List, [], ◌∷◌, ◌++◌, fold, Option, Some, None, option_map, if◌then◌else◌}
use Rattle.std.specs.Str.{bytes_eq}
use Rattle.tk_sequences.specs.declared.event.Event.{Event}
use Rattle.tk_sequences.specs.declared.event.EventKind.{EventKind}
use Rattle.tk_sequences.specs.declared.event.EventKind.TheVariants as kinds
use Rattle.tk_patterns.specs.Matches.{matches}
use Rattle.tk_patterns.specs.declared.binding.Binding.{Binding}
use Rattle.tk_patterns.specs.Own.{has_tag, script_of}
use Rattle.tk_patterns.specs.Specific.{Candidate, beats}
use Rattle.tk_sequences.specs.declared.pattern.Pattern.{Pattern}
use Rattle.tk_sequences.specs.declared.sequence.Sequence.{Sequence}
use Rattle.tk_sequences.specs.declared.sequence.Sequence.TheVariants.{Physical, Virtual}

-- the sequences of virtual events, with their names
abbrev pub Pairs : Type 0
Pairs = List (List ℕ × Sequence)

abbrev pub candidate : List Pattern → Option (List ℕ) → List ℕ → Candidate
candidate patterns name script = record { patterns = patterns; name = name; script = script }

-- the patterns of a sequence of a virtual event, which is itself none
abbrev pub as_candidates : List ℕ → List ℕ → Sequence → List Candidate
as_candidates name script (Physical patterns) = candidate patterns (Some name) script ∷ []
as_candidates name script (Virtual other) = []

module _ (event : Event) (history : List Event) where
  -- a sequence of the virtual event, where it matches
  abbrev pub of_pair : List ℕ → List ℕ → List ℕ × Sequence → List Candidate
  of_pair name script pair = if bytes_eq pair.0 name then (if matches pair.1 event history then as_candidates pair.0 script pair.1 else []) else []

  -- those of a virtual event, in the order of addition
  abbrev pub through : List ℕ → List ℕ → Pairs → List Candidate
  through name script [] = []
  through name script (pair ∷ pairs) = of_pair name script pair ++ through name script pairs

  -- what a binding's sequence gives: itself where it matches, or the sequences of its virtual event
  abbrev pub of_sequence : Pairs → List ℕ → Sequence → List Candidate
  of_sequence pairs script (Physical patterns) = if matches (Physical patterns) event history then candidate patterns None script ∷ [] else []
  of_sequence pairs script (Virtual name) = through name script pairs

  abbrev pub of_binding : Pairs → List ℕ → Binding → List Candidate
  of_binding pairs tag binding = if has_tag tag binding then of_sequence pairs binding.script binding.sequence else []

  -- those of a tag's bindings, in the order of registration
  abbrev pub candidates : Pairs → List ℕ → List Binding → List Candidate
  candidates pairs tag [] = []
  candidates pairs tag (binding ∷ own) = of_binding pairs tag binding ++ candidates pairs tag own

-- a candidate takes the holder's place unless the holder beats it
abbrev pub replaced : Option Candidate → Candidate → Option Candidate
replaced None next = Some next
replaced (Some holder) next = if beats holder next then Some holder else Some next

abbrev pub held_at_last : Option Candidate → List Candidate → Option Candidate
held_at_last holder candidates = fold replaced holder candidates

-- the winner's script; a virtual event has only the binding of its own name
abbrev pub winner_of : EventKind → Pairs → List ℕ → Event → List Event → List Binding → Option (List ℕ)
winner_of (kinds.Physical type) pairs tag event history own = option_map (λ winner. winner.script) (held_at_last None (candidates event history pairs tag own))
winner_of (kinds.Virtual name) pairs tag event history own = script_of tag (Virtual name) own

abbrev pub winner : Pairs → List ℕ → Event → List Event → List Binding → Option (List ℕ)
winner pairs tag event history own = winner_of event.kind pairs tag event history own
