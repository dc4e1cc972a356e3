-- Steps. What the steps of the commands of string(n) and concat(n) say to one another.
use Rattle.std.specs.Prelude.{ℕ, zero, suc, ◌+◌, List, [], ◌∷◌, ◌++◌}
use Rattle.tcl_text.specs.Bytes.{space}

-- the text with the word behind a blank, or as it is where the word is empty
abbrev pub with_word : List ℕ → List ℕ → List ℕ
with_word text [] = text
with_word [] (c ∷ cs) = c ∷ cs
with_word (t ∷ ts) (c ∷ cs) = (t ∷ ts) ++ space ∷ (c ∷ cs)

-- how long that is, by the lengths of both
abbrev pub word_added : ℕ → ℕ → ℕ
word_added text zero = text
word_added zero (suc word) = suc word
word_added (suc text) (suc word) = suc text + suc (suc word)
