-- Lists of values by number that answer alike.
use Rattle.std.proofs.Common.{◌≡◌, ℕ, Bool, true, false, cond, List, ◌∷◌, Some, refl, sym, ap, ◌∙◌}
use Rattle.std.specs.Prelude.{nat_eq}
use Rattle.std.specs.Map.{lookup}
use Rattle.std.proofs.lemmas.Bool.{eqb-true, eqb-false, eq-eqb, ne_eqb}

-- the same is found under each number
pub record Same {X : Type 0} (one other : List (ℕ × X)) : Type 0 where
  pub found : (n : ℕ) → lookup (nat_eq n) one ≡ lookup (nat_eq n) other

swap : (n k : ℕ) → nat_eq k n ≡ nat_eq n k
swap n k = by (nat_eq n k) refl
  where
    by : (b : Bool) → nat_eq n k ≡ b → nat_eq k n ≡ nat_eq n k
    by true is = eq-eqb k n (sym (eqb-true n k is)) ∙ sym is
    by false is = ne_eqb k n (λ e. eqb-false n k is (sym e)) ∙ sym is

module _ {X : Type 0} where
  pub itself : (xs : List (ℕ × X)) → Same xs xs
  itself xs = record { found = λ n. refl }

  pub turned : (xs ys : List (ℕ × X)) → Same xs ys → Same ys xs
  turned xs ys same = record { found = λ n. sym (same.found n) }

  pub joined : (xs ys zs : List (ℕ × X)) → Same xs ys → Same ys zs → Same xs zs
  joined xs ys zs one other = record { found = λ n. one.found n ∙ other.found n }

  pub one_more : (k : ℕ) (v w : X) (xs ys : List (ℕ × X)) → v ≡ w → Same xs ys → Same ((k, v) ∷ xs) ((k, w) ∷ ys)
  one_more k v w xs ys is same = record { found = λ n. ap (λ u. cond (nat_eq n k) (Some u) (lookup (nat_eq n) xs)) is ∙ ap (λ o. cond (nat_eq n k) (Some w) o) (same.found n) }

  -- what an insertion into a map says
  pub inserted : (k : ℕ) (v : X) (old new : List (ℕ × X)) → ((n : ℕ) → lookup (nat_eq n) new ≡ cond (nat_eq k n) (Some v) (lookup (nat_eq n) old)) → Same new ((k, v) ∷ old)
  inserted k v old new is = record { found = λ n. is n ∙ ap (λ b. cond b (Some v) (lookup (nat_eq n) old)) (swap n k) }
