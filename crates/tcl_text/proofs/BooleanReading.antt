-- The relation of a text to its boolean is the function, both ways.
use Rattle.std.proofs.Common.{◌≡◌, ℕ, ◌≤◌, Bool, List, [], ◌∷◌, Option, Some, None, refl, arith, ap, sym, ◌∙◌, inl, inr}
use Rattle.std.specs.Prelude.{ℤ}
use Rattle.std.specs.Char.{to_ascii_lowercase}
use Rattle.std.proofs.lemmas.Bool.{cases_lt}
use Rattle.std.proofs.lemmas.Bool.Decides.{nat_tests}
use Rattle.tcl_text.specs.Readings.{integer_of, IsBoolean, boolean_by, boolean_of, is_nonzero, only_word, words_begun}
use Rattle.tcl_text.proofs.IntegerReading.{IsInteger-from_integer_of, integer_of-from_IsInteger, integer_of-letter}
use Rattle.tcl_text.proofs.BooleanLemmas.{at_other}

same_some : (a b : Bool) → Some a ≡ Some b → a ≡ b
same_some a b e = cc

none_some : (b : Bool) → None ≡ Some b → ⊥
none_some b e = cc

-- the only word is the value's
only_word_is : (ws : List (List ℕ × Bool)) (b : Bool) → only_word ws ≡ Some b → (word : List ℕ) × (ws ≡ (word, b) ∷ [])
only_word_is [] b e = absurd (none_some b e)
only_word_is (w ∷ []) b e = (w.0, ap (λ value. (w.0, value) ∷ []) (same_some w.1 b e))
only_word_is (v ∷ w ∷ ws) b e = absurd (none_some b e)

-- what the function reads is related
pub IsBoolean-from_boolean_of : (text : List ℕ) (b : Bool) → boolean_of text ≡ Some b → IsBoolean text b
unfolding boolean_of
IsBoolean-from_boolean_of text b e = by_integer (integer_of text) refl e
  where
    by_integer : (n : Option ℤ) → integer_of text ≡ n → boolean_by n text ≡ Some b → IsBoolean text b
    by_integer (Some n) is f = inl (n, IsInteger-from_integer_of text n is, sym (same_some (is_nonzero n) b f))
    by_integer None is f = inr (only_word_is (words_begun text) b f)

-- the letters with which words begin stand behind the digits
lowercase_letter : (c : ℕ) → 97 ≤ to_ascii_lowercase c → 58 ≤ c
lowercase_letter c letter = grind (arith, nat_tests)

-- a text that begins a word is no integer
word_no_integer : (text word : List ℕ) (b : Bool) → words_begun text ≡ (word, b) ∷ [] → integer_of text ≡ None
word_no_integer [] word b e = cc
word_no_integer (c ∷ cs) word b e =
    elim (cases_lt (to_ascii_lowercase c) 97) [
      | inl low ↦ (
          let none = at_other (c ∷ cs) cs c refl (λ is. omega arith) (λ is. omega arith) (λ is. omega arith) (λ is. omega arith) (λ is. omega arith) in
          absurd (none_some b (sym none ∙ ap only_word e)))
      | inr letter ↦ integer_of-letter c cs (lowercase_letter c letter)
    ]

-- what is related the function reads
pub boolean_of-from_IsBoolean : (text : List ℕ) (b : Bool) → IsBoolean text b → boolean_of text ≡ Some b
unfolding boolean_of
boolean_of-from_IsBoolean text b h = elim h [
  | inl number ↦ ap (λ n. boolean_by n text) (integer_of-from_IsInteger text number.0 number.1) ∙ ap (λ value. Some value) (sym number.2)
  | inr word ↦ ap (λ n. boolean_by n text) (word_no_integer text word.0 b word.1) ∙ ap only_word word.1
]
