-- Words with blanks between, from the first on.
use Rattle.std.proofs.Common.{◌≡◌, ℕ, ◌<◌, ◌≤◌, List, [], ◌∷◌, ◌++◌, length, get_or, ap, sym, arith}
use Rattle.std.specs.List.{join_with_byte}
use Rattle.std.proofs.lemmas.List.{append-nil}

-- the words, each behind a blank
abbrev pub behind_blanks : List (List ℕ) → List ℕ
behind_blanks [] = []
behind_blanks (word ∷ words) = 32 ∷ word ++ behind_blanks words

pub join-behind_blanks : (word : List ℕ) (words : List (List ℕ)) → join_with_byte 32 (word ∷ words) ≡ word ++ behind_blanks words
join-behind_blanks word [] = sym (append-nil word)
join-behind_blanks word (next ∷ words) = ap (λ (rest : List ℕ). word ++ 32 ∷ rest) (join-behind_blanks next words)

-- a list of one item
pub one_item : (words : List (List ℕ)) (word : List ℕ) → 1 ≤ length words → length words < 2 → word ≡ get_or words 0 word → words ≡ word ∷ []
one_item [] word some few is = absurd (omega arith)
one_item (first ∷ []) word some few is = ap (λ (w : List ℕ). w ∷ []) (sym is)
one_item (first ∷ second ∷ words) word some few is = absurd (omega arith)
