-- Sums of the integers that words are.
use Rattle.std.proofs.Common.{◌≡◌, ℕ, ℤ, pos, negsuc, ◌+ℤ◌, fold, ◌+◌, ◌<◌, ◌^◌, Bool, false, List, [], ◌∷◌, length, get_or, drop, drop-cons, add-one, suc, Result, Ok, Err, refl, ap, sym, ◌∙◌, arith, inl, inr}
use Rattle.std.proofs.lemmas.Bool.{cases_lt}
use Rattle.std.proofs.lemmas.Bool.Decides.{nat_tests}
use Rattle.std.specs.Int.{w64}
use Rattle.std.specs.Prelude.{FitsSigned, nat_lt}
use Rattle.tcl_text.specs.Answers.{◌>>=◌, integer_in}
use Rattle.tk_alias.specs.Services.{fits_64_bits, integers_in, total_of}

-- the sum so far and the integers that the words are
abbrev pub total_from : ℤ → List (List ℕ) → Result ℤ (List ℕ)
total_from sum [] = Ok sum
total_from sum (word ∷ words) = integer_in word >>= λ n. total_from (sum +ℤ n) words

with_first : (sum n : ℤ) (read : Result (List ℤ) (List ℕ))
    → (read >>= λ ns. Ok (fold ◌+ℤ◌ (sum +ℤ n) ns)) ≡ ((read >>= λ ns. Ok (n ∷ ns)) >>= λ ns. Ok (fold ◌+ℤ◌ sum ns))
with_first sum n (Ok ns) = refl
with_first sum n (Err text) = refl

total_from-first : (sum : ℤ) (words : List (List ℕ)) (first : Result ℤ (List ℕ))
    → ((s : ℤ) → total_from s words ≡ (integers_in words >>= λ ns. Ok (fold ◌+ℤ◌ s ns)))
    → (first >>= λ n. total_from (sum +ℤ n) words) ≡ ((first >>= λ n. integers_in words >>= λ ns. Ok (n ∷ ns)) >>= λ ns. Ok (fold ◌+ℤ◌ sum ns))
total_from-first sum words (Ok n) others = others (sum +ℤ n) ∙ with_first sum n (integers_in words)
total_from-first sum words (Err text) others = refl

total_from-fold : (words : List (List ℕ)) (sum : ℤ) → total_from sum words ≡ (integers_in words >>= λ ns. Ok (fold ◌+ℤ◌ sum ns))
total_from-fold [] sum = refl
total_from-fold (word ∷ words) sum = total_from-first sum words (integer_in word) (total_from-fold words)

pub total_of-from : (words : List (List ℕ)) → total_of words ≡ total_from (pos 0) words
total_of-from words = sym (total_from-fold words (pos 0))

-- one word more
pub total_from-step : (sum n next : ℤ) (words : List (List ℕ)) (i : ℕ) (word : List ℕ) → i < length words → word ≡ get_or words i word → integer_in word ≡ Ok n
    → next ≡ sum +ℤ n → total_from sum (drop i words) ≡ total_from next (drop (i + 1) words)
total_from-step sum n next words i word within is read e =
    ap (total_from sum) (drop-cons words i word within ∙ ap (λ (w : List ℕ). w ∷ drop (suc i) words) (sym is)) ∙ rw (read, e, add-one) refl

beyond : (n bound : ℕ) → (n < bound → ⊥) → nat_lt n bound ≡ false
beyond n bound h = elim (cases_lt n bound) [ inl less ↦ absurd (h less) | inr more ↦ grind (arith, nat_tests) ]

pub out_of_range : (n : ℤ) → (FitsSigned w64 n → ⊥) → fits_64_bits n ≡ false
out_of_range (pos n) h = beyond n (2 ^ 63) (λ less. h (record { sfits = less }))
out_of_range (negsuc n) h = beyond n (2 ^ 63) (λ less. h (record { sfits = less }))
