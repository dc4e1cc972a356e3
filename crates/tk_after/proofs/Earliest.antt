-- The least of some due moments.
use Rattle.std.proofs.Common.{◌≡◌, ℕ, ◌≤◌, suc, min, List, [], ◌∷◌, get_or, Option, Some, None, refl, sym, ap, ◌∙◌, subst, ◌⊎◌, inl, inr, arith}
use Rattle.std.specs.Prelude.{All, Contains, IfNone, IfSome, IsSomeAnd}
use Rattle.std.proofs.lemmas.Bool.{cases_lt}
use Rattle.std.proofs.lemmas.Option.{same_Some}
use Rattle.std.proofs.lemmas.List.{get_or_default}
use Rattle.tk_after.specs.Timers.{lesser, least, IsLeastOf}
use Rattle.tk_after.proofs.Dues.{least_at_most}

-- there is none only where there are no moments
least_none : (xs : List ℕ) → least xs ≡ None → xs ≡ []
least_none [] is = refl
least_none (x ∷ xs) is = cc

-- it is no later than any of them
above_least : (xs : List ℕ) (m : ℕ) → IfSome (least xs) (λ y. m ≤ y) → All (λ its. m ≤ its) xs
above_least xs m h = λ k d lt. subst (λ (its : ℕ). m ≤ its) (get_or_default xs k 0 d lt) (above (least xs) h (get_or xs k 0) (least_at_most xs k lt))
  where
    above : (o : Option ℕ) → IfSome o (λ y. m ≤ y) → (its : ℕ) → IsSomeAnd o (λ y. y ≤ its) → m ≤ its
    above None h its below = absurd below
    above (Some y) h its below = omega arith

-- and it is one of them
lesser_some : (a b : Option ℕ) (m : ℕ) → lesser a b ≡ Some m → (a ≡ Some m) ⊎ (b ≡ Some m)
lesser_some None b m is = inr is
lesser_some (Some x) None m is = inl is
lesser_some (Some x) (Some y) m is =
    let least : min x y ≡ m = same_Some _ _ is in
    elim (cases_lt y x) [ inl lt ↦ (let same : y ≡ m = omega arith in inr (ap Some same)) | inr le ↦ (let same : x ≡ m = omega arith in inl (ap Some same)) ]

least_among : (xs : List ℕ) (m : ℕ) → least xs ≡ Some m → Contains xs m
least_among [] m is = cc
least_among (x ∷ xs) m is = pick (lesser_some (Some x) (least xs) m is) (least_among xs m)
  where
    pick : (Some x ≡ Some m) ⊎ (least xs ≡ Some m) → (least xs ≡ Some m → Contains xs m) → Contains (x ∷ xs) m
    pick (inl here) rest = (0, omega arith, same_Some _ _ here)
    pick (inr there) rest = let found = rest there in (suc found.0, omega (arith, found.1), found.2)

-- as an answer tells it
pub least_none-answer : (xs : List ℕ) (o : Option ℕ) → o ≡ least xs → IfNone o (xs ≡ [])
least_none-answer xs None is = least_none xs (sym is)
least_none-answer xs (Some m) is = tt

pub least_some-answer : (xs : List ℕ) (o : Option ℕ) → o ≡ least xs → IfSome o (IsLeastOf xs)
least_some-answer xs None is = tt
least_some-answer xs (Some m) is =
    let P : Option ℕ → Type 0 = λ o. IfSome o (λ y. m ≤ y) in
    record { among = least_among xs m (sym is); least = above_least xs m (subst P is (omega arith)) }

-- a number that is among them, and that none is below, is the least
pub least_is : (xs : List ℕ) (m : ℕ) → IsLeastOf xs m → least xs ≡ Some m
least_is xs m is = by (least xs) refl
  where
    at_most : (o : Option ℕ) (k : ℕ) → IsSomeAnd o (λ y. y ≤ k) → o ≡ None → ⊥
    at_most None k below none = below
    at_most (Some y) k below none = cc

    within : (y : ℕ) → least xs ≡ Some y → y ≤ m
    within y found = subst (λ (k : ℕ). y ≤ k) (get_or_default xs is.among.0 0 m is.among.1 ∙ is.among.2) (subst (λ (o : Option ℕ). IsSomeAnd o (λ v. v ≤ get_or xs is.among.0 0)) found (least_at_most xs is.among.0 is.among.1))

    by : (o : Option ℕ) → least xs ≡ o → least xs ≡ Some m
    by None none = absurd (at_most (least xs) (get_or xs is.among.0 0) (least_at_most xs is.among.0 is.among.1) none)
    by (Some y) found =
        let one : y ≤ m = within y found in
        let among = least_among xs y found in
        let other : m ≤ y = subst (λ (k : ℕ). m ≤ k) (get_or_default xs among.0 0 y among.1 ∙ among.2) (is.least among.0 0 among.1) in
        found ∙ ap Some (omega (arith, one, other))
