-- Meaning. What a cache of scripts keeps.
use Rattle.std.specs.Prelude.{ℕ, Bool, not, List, [], ◌∷◌, filter, take}
use Rattle.std.specs.List.{list_any}
use Rattle.std.specs.Str.{bytes_eq}

-- the texts of the scripts, the one that was asked for last first, and how many there are at most
pub record Kept : Type 0 where
  pub texts : List (List ℕ)
  pub capacity : ℕ

abbrev pub none_kept : ℕ → Kept
none_kept capacity = record { texts = []; capacity = capacity }

abbrev pub is_kept : List ℕ → Kept → Bool
is_kept text kept = list_any (bytes_eq text) kept.texts

abbrev pub other_texts : List ℕ → List (List ℕ) → List (List ℕ)
other_texts text texts = filter (λ other. not (bytes_eq text other)) texts

-- A text that is asked for goes first, and those past the capacity go.
abbrev pub put_first : List ℕ → Kept → Kept
put_first text kept = record kept { texts = take kept.capacity (text ∷ other_texts text kept.texts) }
