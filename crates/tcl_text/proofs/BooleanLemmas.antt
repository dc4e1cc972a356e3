-- The words for true and false by their first letters.
use Rattle.std.proofs.Common.{◌≡◌, ℕ, Bool, true, false, cond, List, [], ◌∷◌, Some, None, refl, codes}
use Rattle.std.specs.Char.{to_ascii_lowercase}
use Rattle.std.proofs.lemmas.Bool.{ne_eqb}
use Rattle.tcl_text.specs.Readings.{begins_word, only_word, words_begun}

-- one word is left, or none
one_word : (b : Bool) (w : List ℕ × Bool) → only_word (cond b (w ∷ []) []) ≡ cond b (Some w.1) None
one_word true w = refl
one_word false w = refl

module _ (text others : List ℕ) (first : ℕ) (is : text ≡ first ∷ others) where
  pub at_y : to_ascii_lowercase first ≡ 121 → only_word (words_begun text) ≡ cond (begins_word others (codes "es")) (Some true) None
  at_y letter = rw is (rw letter (one_word (begins_word others (codes "es")) (codes "yes", true)))

  pub at_n : to_ascii_lowercase first ≡ 110 → only_word (words_begun text) ≡ cond (begins_word others (codes "o")) (Some false) None
  at_n letter = rw is (rw letter (one_word (begins_word others (codes "o")) (codes "no", false)))

  pub at_t : to_ascii_lowercase first ≡ 116 → only_word (words_begun text) ≡ cond (begins_word others (codes "rue")) (Some true) None
  at_t letter = rw is (rw letter (one_word (begins_word others (codes "rue")) (codes "true", true)))

  pub at_f : to_ascii_lowercase first ≡ 102 → only_word (words_begun text) ≡ cond (begins_word others (codes "alse")) (Some false) None
  at_f letter = rw is (rw letter (one_word (begins_word others (codes "alse")) (codes "false", false)))

  pub at_o : to_ascii_lowercase first ≡ 111 → only_word (words_begun text) ≡ only_word (words_begun (111 ∷ others))
  at_o letter = rw is (rw letter refl)

  pub at_other : (to_ascii_lowercase first ≡ 121 → ⊥) → (to_ascii_lowercase first ≡ 110 → ⊥) → (to_ascii_lowercase first ≡ 116 → ⊥) → (to_ascii_lowercase first ≡ 102 → ⊥) → (to_ascii_lowercase first ≡ 111 → ⊥) → only_word (words_begun text) ≡ None
  at_other y n t f o =
      let letter : ℕ = to_ascii_lowercase first in
      rw is (rw (ne_eqb letter 121 y, ne_eqb letter 110 n, ne_eqb letter 116 t, ne_eqb letter 102 f, ne_eqb letter 111 o) refl)

  pub at_on : to_ascii_lowercase first ≡ 110 → only_word (words_begun (111 ∷ text)) ≡ cond (begins_word others []) (Some true) None
  at_on letter = rw is (rw letter (one_word (begins_word others []) (codes "on", true)))

  pub at_of : to_ascii_lowercase first ≡ 102 → only_word (words_begun (111 ∷ text)) ≡ cond (begins_word others (codes "f")) (Some false) None
  at_of letter = rw is (rw letter (one_word (begins_word others (codes "f")) (codes "off", false)))

  pub at_o_other : (to_ascii_lowercase first ≡ 110 → ⊥) → (to_ascii_lowercase first ≡ 102 → ⊥) → only_word (words_begun (111 ∷ text)) ≡ None
  at_o_other n f =
      let letter : ℕ = to_ascii_lowercase first in
      rw is (rw (ne_eqb letter 110 n, ne_eqb letter 102 f) refl)

-- by the first letter, and behind an o by the second
pub ruleset first_letters = (at_y, at_n, at_t, at_f, at_o, at_other)

pub ruleset second_letters = (at_on, at_of, at_o_other)
