-- What wins where nothing is bound, and what the pairs of a virtual event give.
use Rattle.std.proofs.Common.{◌≡◌, ℕ, ◌+◌, ◌<◌, Bool, true, false, cond, List, [], ◌∷◌, ◌++◌, length, drop, get_or, filter, Option, None, refl, sym, ap, ◌∙◌}
use Rattle.std.proofs.lemmas.List.{at_drop_more}
use Rattle.std.proofs.lemmas.List.Sums.{fold-append}
use Rattle.tk_sequences.specs.declared.event.Event.{Event}
use Rattle.tk_sequences.specs.declared.event.EventKind.{EventKind}
use Rattle.tk_sequences.specs.declared.event.EventKind.TheVariants as kinds
use Rattle.tk_patterns.specs.Named.{of_matching, of_pairs}
use Rattle.tk_patterns.specs.Specific.{Candidate}
use Rattle.tk_patterns.specs.Winner.{Pairs, through, replaced, held_at_last, winner_of, winner}
use Rattle.tk_virtual.specs.declared.pair.Pair.{Pair}
use Rattle.tk_virtual.specs.Virtual.{has_name, meanings_of}

no_winner_by : (kind : EventKind) (pairs : Pairs) (tag : List ℕ) (event : Event) (history : List Event) → winner_of kind pairs tag event history [] ≡ None
no_winner_by (kinds.Physical type) pairs tag event history = refl
no_winner_by (kinds.Virtual name) pairs tag event history = refl

-- nothing is bound
pub no_winner : (pairs : Pairs) (tag : List ℕ) (event : Event) (history : List Event) → winner pairs tag event history [] ≡ None
no_winner pairs tag event history = no_winner_by event.kind pairs tag event history

-- ---- the pairs of a virtual event

module _ (event : Event) (history : List Event) (script : List ℕ) where
  -- only those of its name give candidates
  pub through_named : (name : List ℕ) (pairs : List Pair) → through event history name script (meanings_of pairs) ≡ of_pairs event history script (filter (has_name name) pairs)
  through_named name [] = refl
  through_named name (pair ∷ pairs) = by (has_name name pair) (through_named name pairs)
    where
      by : (t : Bool) → through event history name script (meanings_of pairs) ≡ of_pairs event history script (filter (has_name name) pairs)
          → cond t (of_matching event history script pair) [] ++ through event history name script (meanings_of pairs)
          ≡ of_pairs event history script (cond t (pair ∷ filter (has_name name) pairs) (filter (has_name name) pairs))
      by true rest = ap (λ later. of_matching event history script pair ++ later) rest
      by false rest = rest

  pub pair_more : (holder : Option Candidate) (pairs : List Pair) (i : ℕ) (pair : Pair) → i < length pairs → pair ≡ get_or pairs i pair
      → held_at_last holder (of_pairs event history script (drop i pairs))
      ≡ held_at_last (held_at_last holder (of_matching event history script pair)) (of_pairs event history script (drop (i + 1) pairs))
  pair_more holder pairs i pair below is =
      ap (held_at_last holder) (at_drop_more (of_pairs event history script) pairs i pair below)
      ∙ ap (λ p. held_at_last holder (of_pairs event history script (p ∷ drop (i + 1) pairs))) (sym is)
      ∙ fold-append replaced holder (of_matching event history script pair) (of_pairs event history script (drop (i + 1) pairs))
