use Rattle.std.proofs.Common.{◌≡◌, length, IsUtf8}
use Rattle.tk_sequences.specs.Reading.{fields, pattern_behind, pattern_of}
use Rattle.tk_sequences.proofs.reading.pattern_of.Given as goal

-- the fields that are left, behind what was read
abbrev pub invariant-loop-word : goal.invariant-loop-word
invariant-loop-word l = record {
  same : pattern_of l.whole l.inner ≡ pattern_behind l.whole l.held.modifiers l.held.times (fields l.rest);
  utf8 : IsUtf8 l.rest;
}

abbrev pub decreases-loop-word : goal.decreases-loop-word
decreases-loop-word l = length l.rest
