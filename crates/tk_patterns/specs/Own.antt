-- Meaning. One application's bindings, in the order of registration, and what calls do to them (bind(n)).
use Rattle.std.specs.Prelude.{ℕ, Bool, ◌&&◌, not, nat_le, List, [], ◌∷◌, ◌++◌, length, find, filter, map, Option, is_some, is_none, option_map, if◌then◌else◌}
use Rattle.std.specs.Str.{bytes_eq}
use Rattle.tk_patterns.specs.declared.binding.Binding.{Binding}
use Rattle.tk_patterns.specs.Same.{same_sequence}
use Rattle.tk_sequences.specs.declared.sequence.Sequence.{Sequence}

abbrev pub has_tag : List ℕ → Binding → Bool
has_tag tag binding = bytes_eq binding.tag tag

-- the binding of a tag for a sequence
abbrev pub is_of : List ℕ → Sequence → Binding → Bool
is_of tag sequence binding = has_tag tag binding && same_sequence binding.sequence sequence

abbrev pub binding_of : List ℕ → Sequence → List Binding → Option Binding
binding_of tag sequence own = find (is_of tag sequence) own

abbrev pub script_of : List ℕ → Sequence → List Binding → Option (List ℕ)
script_of tag sequence own = option_map (λ binding. binding.script) (binding_of tag sequence own)

-- the sequences of a tag, in the order of registration
abbrev pub sequences_of : List ℕ → List Binding → List Sequence
sequences_of tag own = map (λ binding. binding.sequence) (filter (has_tag tag) own)

-- how many bindings an application has at most
abbrev pub most_bindings : ℕ
most_bindings = 4096

-- no binding more, for a sequence that the tag has none for: as many as there can be are there
abbrev pub refuses : List ℕ → Sequence → List Binding → Bool
refuses tag sequence own = is_none (binding_of tag sequence own) && nat_le most_bindings (length own)

-- the binding keeps its place, with another script
abbrev pub bound_again : List ℕ → Sequence → List ℕ → List Binding → List Binding
bound_again tag sequence script [] = []
bound_again tag sequence script (binding ∷ own) =
    if is_of tag sequence binding then record binding { script = script } ∷ own else binding ∷ bound_again tag sequence script own

-- a new binding is the last
abbrev pub with_binding : List ℕ → Sequence → List ℕ → List Binding → List Binding
with_binding tag sequence script own =
    if is_some (binding_of tag sequence own)
    then bound_again tag sequence script own
    else own ++ record { tag = tag; sequence = sequence; script = script } ∷ []

abbrev pub without_binding : List ℕ → Sequence → List Binding → List Binding
without_binding tag sequence own = filter (λ binding. not (is_of tag sequence binding)) own

abbrev pub without_tag : List ℕ → List Binding → List Binding
without_tag tag own = filter (λ binding. not (has_tag tag binding)) own
