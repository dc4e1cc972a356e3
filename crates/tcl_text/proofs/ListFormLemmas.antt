-- The form of a list, step by step.
use Rattle.std.proofs.Common.{◌≡◌, ℕ, ◌+◌, ◌<◌, true, false, List, [], ◌∷◌, ◌++◌, append_assoc, append-nil, take, drop, length, get_or, refl, arith, ap, sym, ◌∙◌}
use Rattle.std.proofs.lemmas.List.{drop_more, take_more}
use Rattle.std.proofs.lemmas.Bool.Decides.{nat_tests}
use Rattle.tcl_text.specs.ListForm.{StopsAtSpecial, others_form}
use Rattle.tcl_text.specs.Readings.{can_be_bare, element_form, is_special, list_form, with_backslashes}

-- a plain byte more
pub plain_more : (item : List ℕ) (at : ℕ) → at < length item → is_special (get_or item at 0) ≡ false → with_backslashes item ≡ take at item ++ with_backslashes (drop at item) → with_backslashes item ≡ take (at + 1) item ++ with_backslashes (drop (at + 1) item)
plain_more item at inside plain before =
    let b = get_or item at 0 in
    let step : with_backslashes (drop at item) ≡ b ∷ with_backslashes (drop (at + 1) item) = ap with_backslashes (drop_more item at 0 inside) ∙ (rw plain refl) in
    before ∙ ap (λ xs. take at item ++ xs) step ∙ sym (append_assoc (take at item) (b ∷ []) (with_backslashes (drop (at + 1) item)))
    ∙ ap (λ xs. xs ++ with_backslashes (drop (at + 1) item)) (sym (take_more item at 0 inside))

pub StopsAtSpecial-here : (item : List ℕ) (at : ℕ) → at < length item → with_backslashes item ≡ take at item ++ with_backslashes (drop at item) → is_special (get_or item at 0) ≡ true → StopsAtSpecial item at
StopsAtSpecial-here item at inside before special = record { fits = omega arith; plain = before; special = λ _. special }

pub StopsAtSpecial-end : (item : List ℕ) (at : ℕ) → at ≡ length item → with_backslashes item ≡ take at item ++ with_backslashes (drop at item) → StopsAtSpecial item at
StopsAtSpecial-end item at end before = record { fits = omega arith; plain = before; special = λ inside. absurd (omega arith) }

-- the bytes that a list gives a meaning are ASCII
pub special_low : (b : ℕ) → is_special b ≡ true → b < 128
special_low b special = grind (arith, nat_tests)

pub list_form-cons : (x : List ℕ) (xs : List (List ℕ)) → list_form (x ∷ xs) ≡ element_form x ++ others_form xs
unfolding list_form
list_form-cons x [] = sym (append-nil (element_form x))
list_form-cons x (y ∷ ys) = ap (λ xs. element_form x ++ (32 ∷ xs)) (list_form-cons y ys)

pub ruleset plain_runs = (plain_more, StopsAtSpecial-here, StopsAtSpecial-end)

-- what stands behind the first, of items and of more
pub others_form-append : (xs ys : List (List ℕ)) → others_form (xs ++ ys) ≡ others_form xs ++ others_form ys
others_form-append [] ys = refl
others_form-append (x ∷ xs) ys =
    ap (λ (t : List ℕ). 32 ∷ (element_form x ++ t)) (others_form-append xs ys) ∙ ap (λ (t : List ℕ). 32 ∷ t) (sym (append_assoc (element_form x) (others_form xs) (others_form ys)))

-- and of one item
pub list_form-one : (x : List ℕ) → list_form (x ∷ []) ≡ element_form x
unfolding list_form
list_form-one x = refl

pub ruleset list_form_one = (list_form-one)

-- an item that can be bare, as it is
pub bare_form : (item : List ℕ) → 0 < length item → can_be_bare item ≡ true → element_form item ≡ item
bare_form [] some bare = absurd (omega (arith, some))
bare_form (c ∷ cs) some bare = rw bare refl

-- and behind a blank
pub bare_behind : (item form : List ℕ) → element_form item ≡ item → form ≡ (32 ∷ []) ++ item → form ≡ others_form (item ∷ [])
bare_behind item form bare is = is ∙ ap (λ (t : List ℕ). 32 ∷ t) (sym (append-nil item) ∙ ap (λ (t : List ℕ). t ++ []) (sym bare))
