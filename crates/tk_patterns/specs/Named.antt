-- Steps. The candidates that the pairs of one virtual event give.
use Rattle.std.specs.Prelude.{ℕ, List, [], ◌∷◌, ◌++◌, if◌then◌else◌}
use Rattle.tk_sequences.specs.declared.event.Event.{Event}
use Rattle.tk_patterns.specs.Matches.{matches}
use Rattle.tk_patterns.specs.Specific.{Candidate}
use Rattle.tk_patterns.specs.Winner.{as_candidates}
use Rattle.tk_virtual.specs.declared.pair.Pair.{Pair}

module _ (event : Event) (history : List Event) (script : List ℕ) where
  -- a pair's sequence, where it matches
  abbrev pub of_matching : Pair → List Candidate
  of_matching pair = if matches pair.sequence event history then as_candidates pair.name script pair.sequence else []

  abbrev pub of_pairs : List Pair → List Candidate
  of_pairs [] = []
  of_pairs (pair ∷ pairs) = of_matching pair ++ of_pairs pairs
