-- Elements in order.
use Rattle.std.proofs.Common.{◌≡◌, ℕ, zero, suc, ◌+◌, List, [], ◌∷◌, ◌++◌, take, map, slice_get, Some, ap, ◌∙◌, refl, add-one}
use Rattle.tcl_vars.specs.Store.{pairs_of}

take-suc-at : {A : Type 0} (xs : List A) (i : ℕ) (x : A) → slice_get xs i ≡ Some x → take (suc i) xs ≡ take i xs ++ x ∷ []
take-suc-at [] i x at = absurd (cc)
take-suc-at (y ∷ ys) zero x at = let same : y ≡ x = cc in ap (λ z. z ∷ []) same
take-suc-at (y ∷ ys) (suc i) x at = ap (λ l. y ∷ l) (take-suc-at ys i x at)

take-more : {A : Type 0} (xs : List A) (i : ℕ) (x : A) → slice_get xs i ≡ Some x → take (i + 1) xs ≡ take i xs ++ x ∷ []
take-more xs i x at = rw add-one (take-suc-at xs i x at)

map-push : {A B : Type 0} (f : A → B) (xs : List A) (x : A) → map f (xs ++ x ∷ []) ≡ map f xs ++ f x ∷ []
map-push f [] x = refl
map-push f (y ∷ ys) x = ap (λ l. f y ∷ l) (map-push f ys x)

pairs_of-push : (xs : List (List ℕ × List ℕ)) (x : List ℕ × List ℕ) → pairs_of (xs ++ x ∷ []) ≡ (pairs_of xs ++ x.0 ∷ []) ++ x.1 ∷ []
pairs_of-push [] x = refl
pairs_of-push (y ∷ ys) x = ap (λ l. y.0 ∷ y.1 ∷ l) (pairs_of-push ys x)

module _ (elements : List (List ℕ × List ℕ)) (i : ℕ) (e : List ℕ × List ℕ) (at : slice_get elements i ≡ Some e) where
  -- one name more
  pub names-more : map (λ e. e.0) (take (i + 1) elements) ≡ map (λ e. e.0) (take i elements) ++ e.0 ∷ []
  names-more = ap (map (λ e. e.0)) (take-more elements i e at) ∙ map-push (λ e. e.0) (take i elements) e

  -- one pair more
  pub pairs-more : pairs_of (take (i + 1) elements) ≡ (pairs_of (take i elements) ++ e.0 ∷ []) ++ e.1 ∷ []
  pairs-more = ap pairs_of (take-more elements i e at) ∙ pairs_of-push (take i elements) e
