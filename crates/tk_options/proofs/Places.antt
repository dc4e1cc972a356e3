-- The first place at which a test passes.
use Rattle.std.proofs.Common.{◌≡◌, ℕ, ◌+◌, ◌<◌, ◌≤◌, List, [], ◌∷◌, length, get_or, drop, Some, None, Bool, true, false, cond, refl, arith}
use Rattle.std.specs.Prelude.{filter, nat_lt, position}
use Rattle.std.specs.List.{position_or_len}
use Rattle.std.proofs.lemmas.Bool.{ltb-true, ltb-false}

-- what passes begins with what stands there
filter_first : {X : Type 0} (p : X → Bool) (xs : List X) (d : X) → position_or_len p xs < length xs
    → filter p xs ≡ get_or xs (position_or_len p xs) d ∷ filter p (drop (position_or_len p xs + 1) xs)
filter_first p [] d lt = absurd (omega arith)
filter_first p (x ∷ xs) d lt = grind (arith, filter_first p xs d)

filter_none : {X : Type 0} (p : X → Bool) (xs : List X) → length xs ≤ position_or_len p xs → filter p xs ≡ []
filter_none p [] le = refl
filter_none p (x ∷ xs) le = grind (arith, filter_none p xs)

-- the place, where there is one
pub place_is : {X : Type 0} (p : X → Bool) (xs : List X) (place : ℕ) → position p xs ≡ Some place
    → (place < length xs) × (position_or_len p xs ≡ place)
place_is p xs place is = by (nat_lt (position_or_len p xs) (length xs)) refl is
  where
    by : (b : Bool) → nat_lt (position_or_len p xs) (length xs) ≡ b → cond b (Some (position_or_len p xs)) None ≡ Some place
        → (place < length xs) × (position_or_len p xs ≡ place)
    by true lt is = let same : position_or_len p xs ≡ place = cc in (rw same at (ltb-true _ _ lt), same)
    by false lt is = absurd (cc)

pub nowhere : {X : Type 0} (p : X → Bool) (xs : List X) → position p xs ≡ None → length xs ≤ position_or_len p xs
nowhere p xs is = by (nat_lt (position_or_len p xs) (length xs)) refl is
  where
    by : (b : Bool) → nat_lt (position_or_len p xs) (length xs) ≡ b → cond b (Some (position_or_len p xs)) None ≡ None
        → length xs ≤ position_or_len p xs
    by true lt is = absurd (cc)
    by false lt is = ltb-false _ _ lt

pub filter_at : {X : Type 0} (p : X → Bool) (xs : List X) (place : ℕ) (d : X) → position p xs ≡ Some place
    → filter p xs ≡ get_or xs place d ∷ filter p (drop (place + 1) xs)
filter_at p xs place d is =
    let at = place_is p xs place is in
    rw at.1 at (filter_first p xs d (rw (← at.1) at at.0))

pub filter_nowhere : {X : Type 0} (p : X → Bool) (xs : List X) → position p xs ≡ None → filter p xs ≡ []
filter_nowhere p xs is = filter_none p xs (nowhere p xs is)
