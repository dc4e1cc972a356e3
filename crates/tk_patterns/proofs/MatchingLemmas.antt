-- The pairs that match give each tag the winner that all pairs give.
use Rattle.std.proofs.Common.{◌≡◌, ℕ, ◌+◌, ◌<◌, Bool, true, false, cond, List, [], ◌∷◌, ◌++◌, append-nil, length, take, get_or, filter, Option, None, option_map, refl, sym, ap, ◌∙◌}
use Rattle.std.proofs.lemmas.List.{take_more}
use Rattle.std.proofs.lemmas.List.Elements.{filter-append}
use Rattle.std.specs.Prelude.{if◌then◌else◌}
use Rattle.std.specs.Str.{bytes_eq}
use Rattle.tk_sequences.specs.declared.event.Event.{Event}
use Rattle.tk_sequences.specs.declared.event.EventKind.{EventKind}
use Rattle.tk_sequences.specs.declared.event.EventKind.TheVariants as kinds
use Rattle.tk_sequences.specs.declared.sequence.Sequence.{Sequence}
use Rattle.tk_sequences.specs.declared.sequence.Sequence.TheVariants.{Physical, Virtual}
use Rattle.tk_patterns.specs.Matches.{matches}
use Rattle.tk_patterns.specs.Matching.{matching}
use Rattle.tk_patterns.specs.Own.{has_tag}
use Rattle.tk_patterns.specs.Specific.{Candidate}
use Rattle.tk_patterns.specs.Winner.{as_candidates, of_pair, through, of_sequence, of_binding, candidates, held_at_last, winner_of, winner}
use Rattle.tk_patterns.specs.declared.binding.Binding.{Binding}
use Rattle.tk_virtual.specs.declared.pair.Pair.{Pair}
use Rattle.tk_virtual.specs.Virtual.{meanings_of}

abbrev none : List Candidate
none = []

none_either_way : (b : Bool) → cond b none none ≡ none
none_either_way true = refl
none_either_way false = refl

module _ (event : Event) (history : List Event) where
  -- a pair that doesn't match gives none
  none_of_pair : (name script : List ℕ) (pair : Pair) → matches pair.sequence event history ≡ false → of_pair event history name script (pair.name, pair.sequence) ≡ []
  none_of_pair name script pair fails =
      ap (λ m. cond (bytes_eq pair.name name) (cond m (as_candidates pair.name script pair.sequence) []) []) fails ∙ none_either_way (bytes_eq pair.name name)

  through_matching : (name script : List ℕ) (pairs : List Pair)
      → through event history name script (meanings_of (matching event history pairs)) ≡ through event history name script (meanings_of pairs)
  through_matching name script [] = refl
  through_matching name script (pair ∷ pairs) = by (matches pair.sequence event history) refl (through_matching name script pairs)
    where
      by : (m : Bool) → matches pair.sequence event history ≡ m
          → through event history name script (meanings_of (matching event history pairs)) ≡ through event history name script (meanings_of pairs)
          → through event history name script (meanings_of (cond m (pair ∷ matching event history pairs) (matching event history pairs)))
          ≡ of_pair event history name script (pair.name, pair.sequence) ++ through event history name script (meanings_of pairs)
      by true is rest = ap (λ later. of_pair event history name script (pair.name, pair.sequence) ++ later) rest
      by false is rest = rest ∙ ap (λ own. own ++ through event history name script (meanings_of pairs)) (sym (none_of_pair name script pair is))

  module _ (pairs : List Pair) where
    sequence_matching : (script : List ℕ) (sequence : Sequence)
        → of_sequence event history (meanings_of (matching event history pairs)) script sequence ≡ of_sequence event history (meanings_of pairs) script sequence
    sequence_matching script (Physical patterns) = refl
    sequence_matching script (Virtual name) = through_matching name script pairs

    candidates_matching : (tag : List ℕ) (own : List Binding)
        → candidates event history (meanings_of (matching event history pairs)) tag own ≡ candidates event history (meanings_of pairs) tag own
    candidates_matching tag [] = refl
    candidates_matching tag (binding ∷ own) =
        ap (λ first. (if has_tag tag binding then first else []) ++ candidates event history (meanings_of (matching event history pairs)) tag own)
        (sequence_matching binding.script binding.sequence)
        ∙ ap (λ later. of_binding event history (meanings_of pairs) tag binding ++ later) (candidates_matching tag own)

    winner_matching_by : (kind : EventKind) (tag : List ℕ) (own : List Binding)
        → winner_of kind (meanings_of (matching event history pairs)) tag event history own ≡ winner_of kind (meanings_of pairs) tag event history own
    winner_matching_by (kinds.Physical type) tag own = ap (λ own. option_map (λ winner. winner.script) (held_at_last None own)) (candidates_matching tag own)
    winner_matching_by (kinds.Virtual name) tag own = refl

    pub winner_matching : (tag : List ℕ) (own : List Binding)
        → winner (meanings_of (matching event history pairs)) tag event history own ≡ winner (meanings_of pairs) tag event history own
    winner_matching tag own = winner_matching_by event.kind tag own

  -- ---- one pair after another

  pub one_more : (pairs : List Pair) (i : ℕ) (pair : Pair) → i < length pairs → pair ≡ get_or pairs i pair
      → matching event history (take (i + 1) pairs) ≡ matching event history (take i pairs) ++ matching event history (pair ∷ [])
  one_more pairs i pair within is =
      ap (matching event history) (take_more pairs i pair within ∙ ap (λ last. take i pairs ++ last ∷ []) (sym is))
      ∙ filter-append (λ pair. matches pair.sequence event history) (take i pairs) (pair ∷ [])
