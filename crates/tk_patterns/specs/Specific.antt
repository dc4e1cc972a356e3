-- Meaning. Which of two matching sequences is more specific (bind(n), MULTIPLE MATCHES). The first of (a) to (e) that tells them apart decides.
use Rattle.std.specs.Prelude.{ℕ, Bool, true, false, ◌-◌, nat_lt, List, [], ◌∷◌, length, Option, Some, None, is_some, slice_get, if◌then◌else◌}
use Rattle.std.specs.Option.{option_map_or}
use Rattle.std.specs.Ordering.{is_lt, nat_cmp}
use Rattle.std.specs.Cmp.Lexicographic.{slice_cmp}
use Rattle.tk_patterns.specs.declared.copies.PatternCopy.{PatternCopy}
use Rattle.tk_patterns.specs.Copies.{all_copies}
use Rattle.tk_patterns.specs.declared.verdict.Verdict.{Verdict}
use Rattle.tk_patterns.specs.declared.verdict.Verdict.TheVariants.{More, Less, Alike}
use Rattle.tk_patterns.specs.Same.{same_patterns}
use Rattle.tk_sequences.specs.declared.pattern.Pattern.{Pattern}
use Rattle.tk_sequences.specs.Modifiers.{contains_more}

-- a sequence that may win: its patterns, the virtual event that it stands for, if it is bound through one, and the script
pub record Candidate : Type 0 where
  pub patterns : List Pattern
  pub name : Option (List ℕ)
  pub script : List ℕ

-- the first rule that tells them apart
abbrev pub first_of : Verdict → Verdict → Verdict
first_of More later = More
first_of Less later = Less
first_of Alike later = later

-- the one that has it is more specific
abbrev pub by_having : Bool → Bool → Verdict
by_having true false = More
by_having false true = Less
by_having _ _ = Alike

-- the last pattern has a detail
abbrev pub ends_with_detail : List Pattern → Bool
ends_with_detail patterns = option_map_or (λ pattern. is_some pattern.detail) (slice_get patterns (length patterns - 1)) false

-- (a) the last pattern has a detail
abbrev pub by_detail : List Pattern → List Pattern → Verdict
by_detail patterns others = by_having (ends_with_detail patterns) (ends_with_detail others)

-- (b) longer, each copy of a Double, Triple or Quadruple counted
abbrev pub by_length : List Pattern → List Pattern → Verdict
by_length patterns others =
    if nat_lt (length (all_copies others)) (length (all_copies patterns)) then More else
    if nat_lt (length (all_copies patterns)) (length (all_copies others)) then Less else Alike

-- one set of modifiers beside another: the proper superset is more specific
abbrev pub by_held : ℕ → ℕ → Verdict
by_held modifiers others = if contains_more modifiers others then More else if contains_more others modifiers then Less else Alike

-- (c) from the newest event to the oldest, a proper superset of modifiers
abbrev pub by_modifiers : List PatternCopy → List PatternCopy → Verdict
by_modifiers [] others = Alike
by_modifiers (copy ∷ copies) [] = Alike
by_modifiers (copy ∷ copies) (other ∷ others) = first_of (by_held copy.pattern.modifiers other.pattern.modifiers) (by_modifiers copies others)

-- (d) a physical sequence before the same through a virtual event
abbrev pub by_origin : Option (List ℕ) → Option (List ℕ) → Verdict
by_origin None None = Alike
by_origin None (Some other) = More
by_origin (Some name) None = Less
by_origin (Some name) (Some other) = Alike

-- (e) of two virtual events with the same sequence the name that is less by bytes
abbrev pub by_name : Option (List ℕ) → Option (List ℕ) → Verdict
by_name None other = Alike
by_name (Some name) None = Alike
by_name (Some name) (Some other) = by_having (is_lt (slice_cmp nat_cmp name other)) (is_lt (slice_cmp nat_cmp other name))

-- (d) and (e) speak of the same sequence alone
abbrev pub if_same : Bool → Verdict → Verdict
if_same true verdict = verdict
if_same false verdict = Alike

-- what the first rule says that tells them apart
abbrev pub verdict : List Pattern → List Pattern → Option (List ℕ) → Option (List ℕ) → Verdict
verdict patterns others name other =
    first_of (by_detail patterns others)
    (first_of (by_length patterns others)
    (first_of (by_modifiers (all_copies patterns) (all_copies others))
    (if_same (same_patterns patterns others) (first_of (by_origin name other) (by_name name other)))))

abbrev pub is_more : Verdict → Bool
is_more More = true
is_more _ = false

abbrev pub is_alike : Verdict → Bool
is_alike Alike = true
is_alike _ = false

-- the first is more specific
abbrev pub beats : Candidate → Candidate → Bool
beats a b = is_more (verdict a.patterns b.patterns a.name b.name)
