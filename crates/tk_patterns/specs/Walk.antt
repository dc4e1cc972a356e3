-- Steps. The same by a walk back over the events. No place is chosen: the nearest event that fits is the only one that can be.
use Rattle.std.specs.Prelude.{Bool, true, false, ◌&&◌, List, [], ◌∷◌, Option, Some, None, if◌then◌else◌}
use Rattle.tk_sequences.specs.declared.event.Event.{Event}
use Rattle.tk_patterns.specs.declared.copies.PatternCopy.{PatternCopy}
use Rattle.tk_patterns.specs.Fits.{fits, may_stand_between}
use Rattle.tk_patterns.specs.Matches.{earlier_at, is_near_enough}
use Rattle.tk_patterns.specs.Copies.{all_copies}
use Rattle.tk_sequences.specs.declared.pattern.Pattern.{Pattern}
use Rattle.tk_sequences.specs.declared.sequence.Sequence.{Sequence}
use Rattle.tk_sequences.specs.declared.sequence.Sequence.TheVariants.{Physical, Virtual}

-- the nearest event that the pattern fits, and those before it; none where an event stands before it that may not stand between
abbrev pub nearest : Pattern → List Event → Option (Event × List Event)
nearest pattern [] = None
nearest pattern (event ∷ events) =
    if fits pattern event then Some (event, events) else
    if may_stand_between event then nearest pattern events else None

abbrev pub walk_from : PatternCopy → (List Event → Event → Bool) → Event → Option (Event × List Event) → Bool
walk_from copy rest later None = false
walk_from copy rest later (Some found) = is_near_enough copy found.0 later && rest found.1 found.0

abbrev pub walk : List PatternCopy → List Event → Event → Bool
walk [] = λ events later. true
walk (copy ∷ copies) = λ events later. walk_from copy (walk copies) later (nearest copy.pattern events)

abbrev pub walk_ends_at : List PatternCopy → List Event → Event → Bool
walk_ends_at [] events event = false
walk_ends_at (copy ∷ copies) events event = fits copy.pattern event && walk copies events event

abbrev pub walk_matches : Sequence → Event → List Event → Bool
walk_matches (Physical patterns) event history = walk_ends_at (all_copies patterns) (earlier_at event.number history) event
walk_matches (Virtual name) event history = false
