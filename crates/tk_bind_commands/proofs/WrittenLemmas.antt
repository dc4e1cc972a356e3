-- How long sequences are in their canonical form.
use Rattle.std.proofs.Common.{◌≡◌, ℕ, ◌+◌, ◌<◌, List, [], ◌∷◌, length, length-append, get_or, map, sum_by, take, refl, sym, ap, ◌∙◌, arith}
use Rattle.std.proofs.lemmas.List.Sums.{sum_by-cons, sum_by-take-le, sum_by_more}
use Rattle.std.specs.List.{concat}
use Rattle.tcl_text.specs.Readings.{list_form}
use Rattle.tk_sequences.specs.declared.sequence.Sequence.{Sequence}
use Rattle.tk_sequences.specs.Writing.{canonical}
use Rattle.tk_virtual.proofs.FormLemmas.{form_long}

abbrev pub written_length : Sequence → ℕ
written_length sequence = length (canonical sequence)

all_lengths : (sequences : List Sequence) → sum_by written_length sequences ≡ length (concat (map canonical sequences))
all_lengths [] = refl
all_lengths (sequence ∷ sequences) =
    omega (arith, sum_by-cons written_length sequence sequences, all_lengths sequences, length-append (canonical sequence) (concat (map canonical sequences)))

module _ (sequences : List Sequence) (index : ℕ) (sequence : Sequence) (below : index < length sequences) (is : sequence ≡ get_or sequences index sequence) where
  pub one_longer : sum_by written_length (take (index + 1) sequences) ≡ sum_by written_length (take index sequences) + written_length sequence
  one_longer = sum_by_more written_length sequences index sequence below ∙ ap (λ s. sum_by written_length (take index sequences) + written_length s) (sym is)

  -- their list is too long where the first of them are
  pub first_too_long : 65536 < sum_by written_length (take index sequences) + written_length sequence → 65536 < length (list_form (map canonical sequences))
  first_too_long past =
      omega (arith, past, one_longer, sum_by-take-le written_length sequences (index + 1), all_lengths sequences, form_long (map canonical sequences))
