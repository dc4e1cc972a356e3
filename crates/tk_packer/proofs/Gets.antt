-- What stands at a place of a list.
use Rattle.std.proofs.Common.{◌≡◌, ◌≢◌, ℕ, zero, suc, ◌<◌, List, [], ◌∷◌, length, set, Option, None, Some, refl, sym, ap, ◌∙◌, arith}
use Rattle.std.specs.Prelude.{map, option_map, slice_get, unwrap_or}

pub it_is : {X : Type 0} (x y : X) → Some x ≡ Some y → x ≡ y
it_is {X = X} x y is = ap (λ (o : Option X). unwrap_or o x) is

pub none_some : {X : Type 0} (x : X) → None ≡ Some x → ⊥
none_some x is = cc

module _ {X : Type 0} where
  pub get_within : (xs : List X) (i : ℕ) (x : X) → slice_get xs i ≡ Some x → i < length xs
  get_within [] i x is = absurd (cc)
  get_within (y ∷ xs) zero x is = omega arith
  get_within (y ∷ xs) (suc i) x is = (let rest = get_within xs i x is in omega (arith, rest))

  pub within_get : (xs : List X) (i : ℕ) → i < length xs → (x : X) × (slice_get xs i ≡ Some x)
  within_get [] i lt = absurd (omega (arith, lt))
  within_get (y ∷ xs) zero lt = (y, refl)
  within_get (y ∷ xs) (suc i) lt = within_get xs i (omega (arith, lt))

  pub set_here : (xs : List X) (i : ℕ) (y : X) → i < length xs → slice_get (set xs i y) i ≡ Some y
  set_here [] i y lt = absurd (omega (arith, lt))
  set_here (x ∷ xs) zero y lt = refl
  set_here (x ∷ xs) (suc i) y lt = set_here xs i y (omega (arith, lt))

  pub set_there : (xs : List X) (i j : ℕ) (y : X) → j ≢ i → slice_get (set xs i y) j ≡ slice_get xs j
  set_there [] i j y differ = refl
  set_there (x ∷ xs) zero zero y differ = absurd (differ refl)
  set_there (x ∷ xs) zero (suc j) y differ = refl
  set_there (x ∷ xs) (suc i) zero y differ = refl
  set_there (x ∷ xs) (suc i) (suc j) y differ = set_there xs i j y (λ same. differ (ap suc same))

-- a list beside it is as long
pub beside : {X Y : Type 0} (xs : List X) (ys : List Y) → length xs ≡ length ys → (i : ℕ) (x : X) → slice_get xs i ≡ Some x → (y : Y) × (slice_get ys i ≡ Some y)
beside xs ys long i x is = within_get ys i (let lt = get_within xs i x is in omega (arith, long, lt))

-- what a map has comes from what stands there
pub mapped_from : {X Y : Type 0} (f : X → Y) (xs : List X) (i : ℕ) (y : Y) → slice_get (map f xs) i ≡ Some y → (x : X) × ((slice_get xs i ≡ Some x) × (y ≡ f x))
mapped_from f [] i y is = absurd (cc)
mapped_from f (x ∷ xs) zero y is = (x, (refl, sym (it_is (f x) y is)))
mapped_from f (x ∷ xs) (suc i) y is = mapped_from f xs i y is

pub get_map : {X Y : Type 0} (f : X → Y) (xs : List X) (i : ℕ) → slice_get (map f xs) i ≡ option_map f (slice_get xs i)
get_map f [] i = refl
get_map f (x ∷ xs) zero = refl
get_map f (x ∷ xs) (suc i) = get_map f xs i

-- lists with the same at each place
pub same_gets : {X : Type 0} (xs ys : List X) → ((i : ℕ) → slice_get xs i ≡ slice_get ys i) → xs ≡ ys
same_gets [] [] same = refl
same_gets [] (y ∷ ys) same = absurd (let wrong = same zero in cc)
same_gets (x ∷ xs) [] same = absurd (let wrong = same zero in cc)
same_gets {X = X} (x ∷ xs) (y ∷ ys) same =
    ap (λ z. z ∷ xs) (it_is x y (same zero)) ∙ ap (λ (zs : List X). y ∷ zs) (same_gets xs ys (λ i. same (suc i)))
