-- Meaning. Whether two sequences are the same: one canonical form, so pattern by pattern the same modifiers, repetition, type and detail.
use Rattle.std.specs.Prelude.{Bool, true, false, ◌&&◌, ◌==◌, List, [], ◌∷◌, Option, Some, None}
use Rattle.std.specs.Str.{bytes_eq}
use Rattle.tk_sequences.specs.declared.detail.Detail.{Detail}
use Rattle.tk_sequences.specs.declared.detail.Detail.TheVariants.{Key, Button}
use Rattle.tk_sequences.specs.declared.pattern.Pattern.{Pattern}
use Rattle.tk_sequences.specs.declared.sequence.Sequence.{Sequence}
use Rattle.tk_sequences.specs.declared.sequence.Sequence.TheVariants.{Physical, Virtual}
use Rattle.tk_sequences.specs.Patterns.{times_of}
use Rattle.tk_sequences.specs.Types.{type_number}

abbrev pub same_detail : Option Detail → Option Detail → Bool
same_detail None None = true
same_detail None (Some other) = false
same_detail (Some (Key key)) (Some (Key other)) = key == other
same_detail (Some (Button button)) (Some (Button other)) = button == other
same_detail (Some (Key key)) (Some (Button other)) = false
same_detail (Some (Button button)) (Some (Key other)) = false
same_detail (Some detail) None = false

-- no two repetitions are of one count, and no two types have one number
abbrev pub same_pattern : Pattern → Pattern → Bool
same_pattern pattern other =
    (pattern.modifiers == other.modifiers) && (times_of pattern.times == times_of other.times)
    && (type_number pattern.kind == type_number other.kind) && same_detail pattern.detail other.detail

abbrev pub same_patterns : List Pattern → List Pattern → Bool
same_patterns [] [] = true
same_patterns [] (other ∷ others) = false
same_patterns (pattern ∷ patterns) [] = false
same_patterns (pattern ∷ patterns) (other ∷ others) = same_pattern pattern other && same_patterns patterns others

abbrev pub same_sequence : Sequence → Sequence → Bool
same_sequence (Physical patterns) (Physical others) = same_patterns patterns others
same_sequence (Virtual name) (Virtual other) = bytes_eq name other
same_sequence (Physical patterns) (Virtual other) = false
same_sequence (Virtual name) (Physical others) = false
