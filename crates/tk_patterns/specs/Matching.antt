-- Steps. The pairs of virtual events that an event means.
use Rattle.std.specs.Prelude.{ℕ, List, filter}
use Rattle.tk_sequences.specs.declared.event.Event.{Event}
use Rattle.tk_patterns.specs.Matches.{matches}
use Rattle.tk_virtual.specs.declared.pair.Pair.{Pair}

-- those whose sequences match
abbrev pub matching : Event → List Event → List Pair → List Pair
matching event history pairs = filter (λ pair. matches pair.sequence event history) pairs
