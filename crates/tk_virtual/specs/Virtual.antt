-- Meaning. Pairs of a virtual event's name and a sequence that stands for it.
use Rattle.std.specs.Prelude.{ℕ, Bool, ◌&&◌, not, nat_le, if◌then◌else◌, List, [], ◌∷◌, ◌++◌, length, map, filter, fold, Option, Some, None, Result, Ok, Err}
use Rattle.std.specs.List.{list_any}
use Rattle.std.specs.Str.{bytes_eq}
use Rattle.tk_base.specs.Steps.{◌>>=◌}
use Rattle.tk_virtual.specs.Parse.{parsed}
use Rattle.tk_sequences.specs.Words.{in_brackets, name_in}
use Rattle.tk_sequences.specs.Writing.{canonical}
use Rattle.tk_sequences.specs.declared.fault.SequenceFault.{SequenceFault}
use Rattle.tk_sequences.specs.declared.fault.SequenceFault.TheVariants as sequence_faults
use Rattle.tk_sequences.specs.declared.sequence.Sequence.{Sequence}
use Rattle.tk_sequences.specs.declared.sequence.Sequence.TheVariants as sequences
use Rattle.tk_virtual.specs.declared.fault.VirtualFault.{VirtualFault}
use Rattle.tk_virtual.specs.declared.fault.VirtualFault.TheVariants.{BadName, BadSequence, BadKeysym, VirtualInVirtual, Full, NoMemory}
use Rattle.tk_virtual.specs.declared.pair.Pair.{Pair}

abbrev pub OrFault : Type 0 → Type 0
OrFault T = Result T VirtualFault

-- ---- what is added

abbrev pub fault_of : SequenceFault → VirtualFault
fault_of (sequence_faults.BadSequence text) = BadSequence text
fault_of (sequence_faults.BadKeysym word) = BadKeysym word
fault_of sequence_faults.NoMemory = NoMemory

-- a name in its brackets
abbrev pub name_or_fault : List ℕ → Option (List ℕ) → OrFault (List ℕ)
name_or_fault word (Some name) = Ok name
name_or_fault word None = Err (BadName word)

-- a sequence that is no virtual event
abbrev pub not_virtual : Result Sequence SequenceFault → OrFault Sequence
not_virtual (Ok (sequences.Virtual name)) = Err VirtualInVirtual
not_virtual (Ok (sequences.Physical patterns)) = Ok (sequences.Physical patterns)
not_virtual (Err fault) = Err (fault_of fault)

-- a pair of these
abbrev pub pair_of : List ℕ → Sequence → Pair
pair_of name sequence = record { name = name; sequence = sequence }

abbrev pub with_sequence : List ℕ → OrFault Sequence → OrFault Pair
with_sequence name (Ok sequence) = Ok (pair_of name sequence)
with_sequence name (Err fault) = Err fault

abbrev pub pair_with : OrFault (List ℕ) → List ℕ → OrFault Pair
pair_with (Ok name) text = with_sequence name (not_virtual (parsed text))
pair_with (Err fault) text = Err fault

-- the pair that a name and a sequence spell: first the name is tested, then the sequence
unfoldable pub pair_meant : List ℕ → List ℕ → OrFault Pair
pair_meant word text = pair_with (name_or_fault word (name_in word)) text

-- ---- the pairs of one application, in the order in which they were added

abbrev pub has_name : List ℕ → Pair → Bool
has_name name pair = bytes_eq pair.name name

-- one name, and sequences of one canonical form
abbrev pub is_same : Pair → Pair → Bool
is_same wanted pair = bytes_eq pair.name wanted.name && bytes_eq (canonical pair.sequence) (canonical wanted.sequence)

-- how many pairs an application has at most
abbrev pub most_pairs : ℕ
most_pairs = 4096

-- one more at the end, unless it is there or as many as there can be are
abbrev pub with_pair : Pair → List Pair → OrFault (List Pair)
with_pair pair pairs =
    if list_any (is_same pair) pairs then Ok pairs
    else (if nat_le most_pairs (length pairs) then Err Full
    else Ok (pairs ++ pair ∷ []))

abbrev pub with_meant : OrFault Pair → List Pair → OrFault (List Pair)
with_meant (Ok pair) pairs = with_pair pair pairs
with_meant (Err fault) pairs = Err fault

-- a pair is added
unfoldable pub added : List ℕ → List ℕ → List Pair → OrFault (List Pair)
added word text pairs = with_meant (pair_meant word text) pairs

-- pairs of one name are added, one after another; none where one is refused
abbrev pub all_added : List ℕ → List (List ℕ) → List Pair → OrFault (List Pair)
all_added word [] pairs = Ok pairs
all_added word (text ∷ texts) pairs = added word text pairs >>= all_added word texts

-- all pairs of a name but these
abbrev pub without_name : List ℕ → List Pair → List Pair
without_name name pairs = filter (λ pair. not (has_name name pair)) pairs

abbrev pub without_pair : Pair → List Pair → List Pair
without_pair wanted pairs = filter (λ pair. not (is_same wanted pair)) pairs

-- the pairs that a name and several sequences spell, each tested in turn
abbrev pub pairs_meant : List ℕ → List (List ℕ) → OrFault (List Pair)
pairs_meant word [] = Ok []
pairs_meant word (text ∷ texts) = do
  pair ← pair_meant word text
  pairs ← pairs_meant word texts
  Ok (pair ∷ pairs)

-- all pairs but those that are the same as one of these
abbrev pub without_pairs : List Pair → List Pair → List Pair
without_pairs wanted pairs = filter (λ pair. not (list_any (is_same pair) wanted)) pairs

-- pairs of one name are taken out; none where one is refused
abbrev pub all_deleted : List ℕ → List (List ℕ) → List Pair → OrFault (List Pair)
all_deleted word texts pairs = do
  wanted ← pairs_meant word texts
  Ok (without_pairs wanted pairs)

-- pairs of a name are taken out, all of them or those with these sequences; none where a word is refused
unfoldable pub deleted : List ℕ → List (List ℕ) → List Pair → OrFault (List Pair)
deleted word [] pairs = do
  name ← name_or_fault word (name_in word)
  Ok (without_name name pairs)
deleted word (text ∷ texts) pairs = all_deleted word (text ∷ texts) pairs

-- names and what stands for them
abbrev pub meanings_of : List Pair → List (List ℕ × Sequence)
meanings_of pairs = map (λ pair. (pair.name, pair.sequence)) pairs

-- the sequences of a name in their canonical form
abbrev pub written_of : List ℕ → List Pair → List (List ℕ)
written_of name pairs = map (λ pair. canonical pair.sequence) (filter (has_name name) pairs)

-- the names, each where it first stands
abbrev pub with_name : List (List ℕ) → Pair → List (List ℕ)
with_name names pair = if list_any (λ name. bytes_eq name pair.name) names then names else names ++ pair.name ∷ []

abbrev pub names_of : List Pair → List (List ℕ)
names_of pairs = fold with_name [] pairs

-- the same in their brackets
abbrev pub written_names : List Pair → List (List ℕ)
written_names pairs = map in_brackets (names_of pairs)
