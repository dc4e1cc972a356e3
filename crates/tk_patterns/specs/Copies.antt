-- Meaning. The single events that patterns ask for, the newest first: of each pattern as many copies as it is to come times.
use Rattle.std.specs.Prelude.{true, false, List, [], ◌∷◌, ◌++◌}
use Rattle.tk_patterns.specs.declared.copies.PatternCopy.{PatternCopy}
use Rattle.tk_sequences.specs.declared.pattern.Pattern.{Pattern}
use Rattle.tk_sequences.specs.declared.pattern.Repetition.{Repetition}
use Rattle.tk_sequences.specs.declared.pattern.Repetition.TheVariants.{Single, Double, Triple, Quadruple}

-- the newest copy of a pattern
abbrev pub newest_copy : Pattern → PatternCopy
newest_copy pattern = record { pattern = pattern; again = false }

-- a copy that is followed by another of the same pattern
abbrev pub earlier_copy : Pattern → PatternCopy
earlier_copy pattern = record { pattern = pattern; again = true }

abbrev pub earlier_copies : Repetition → Pattern → List PatternCopy
earlier_copies Single pattern = []
earlier_copies Double pattern = earlier_copy pattern ∷ []
earlier_copies Triple pattern = earlier_copy pattern ∷ earlier_copy pattern ∷ []
earlier_copies Quadruple pattern = earlier_copy pattern ∷ earlier_copy pattern ∷ earlier_copy pattern ∷ []

-- Double, Triple and Quadruple are 2, 3 and 4 copies
abbrev pub copies_of : Pattern → List PatternCopy
copies_of pattern = newest_copy pattern ∷ earlier_copies pattern.times pattern

-- of patterns, which stand with the first one first; their copies stand with the newest first
abbrev pub all_copies : List Pattern → List PatternCopy
all_copies [] = []
all_copies (pattern ∷ patterns) = all_copies patterns ++ copies_of pattern
