-- Meaning. The canonical form of sequences.
use Rattle.std.specs.Prelude.{ℕ, List, [], ◌∷◌, ◌++◌, Option, Some, None, if◌then◌else◌, codes}
use Rattle.std.specs.Fmt.{decimal}
use Rattle.std.specs.List.{flat_map}
use Rattle.tk_base.specs.Names.{name_of}
use Rattle.tk_sequences.specs.Modifiers.{all_modifiers, has_modifier, modifier_name}
use Rattle.tk_sequences.specs.Words.{in_brackets}
use Rattle.tk_sequences.specs.Types.{type_name}
use Rattle.tk_sequences.specs.declared.detail.Detail.{Detail}
use Rattle.tk_sequences.specs.declared.detail.Detail.TheVariants.{Key, Button}
use Rattle.tk_sequences.specs.declared.modifier.Modifier.{Modifier}
use Rattle.tk_sequences.specs.declared.pattern.Pattern.{Pattern}
use Rattle.tk_sequences.specs.declared.pattern.Repetition.{Repetition}
use Rattle.tk_sequences.specs.declared.pattern.Repetition.TheVariants.{Single, Double, Triple, Quadruple}
use Rattle.tk_sequences.specs.declared.sequence.Sequence.{Sequence}
use Rattle.tk_sequences.specs.declared.sequence.Sequence.TheVariants.{Virtual, Physical}

-- a modifier with a `-` behind it, where a set has it
abbrev pub modifier_written : ℕ → Modifier → List ℕ
modifier_written held modifier = if has_modifier held modifier then modifier_name modifier ++ codes "-" else []

-- the modifiers of a set in their order
abbrev pub held_written : ℕ → List ℕ
held_written held = flat_map (modifier_written held) all_modifiers

-- how often an event comes, with a `-` behind it
abbrev pub repetition_written : Repetition → List ℕ
repetition_written Single = []
repetition_written Double = codes "Double-"
repetition_written Triple = codes "Triple-"
repetition_written Quadruple = codes "Quadruple-"

-- a key by its name, a button by its number
abbrev pub detail_written : Detail → List ℕ
detail_written (Key key) = name_of key
detail_written (Button button) = decimal button

-- with a `-` in front
abbrev pub some_detail_written : Option Detail → List ℕ
some_detail_written None = []
some_detail_written (Some detail) = codes "-" ++ detail_written detail

abbrev pub pattern_written : Pattern → List ℕ
pattern_written pattern =
    codes "<" ++ (held_written pattern.modifiers
    ++ (repetition_written pattern.times ++ (type_name pattern.kind ++ (some_detail_written pattern.detail ++ codes ">"))))

abbrev pub patterns_written : List Pattern → List ℕ
patterns_written patterns = flat_map pattern_written patterns

-- the sequence in its canonical form
unfoldable pub canonical : Sequence → List ℕ
canonical (Virtual name) = in_brackets name
canonical (Physical patterns) = patterns_written patterns
