-- Sets of places that are still to be looked at.
use Rattle.std.proofs.Common.{◌≡◌, ◌≢◌, ◌⊎◌, inl, inr, ℕ, suc, ◌-◌, ◌<◌, ◌≤◌, max, Bool, true, false, cond, ◌||◌, List, [], ◌∷◌, length, refl, sym, ap, ◌∙◌, arith}
use Rattle.std.specs.Prelude.{nat_eq}
use Rattle.std.specs.BTreeSet.{BTreeSet, Updates, UpdatesBy, contains}
use Rattle.std.specs.BTreeMap.{is_at}
use Rattle.std.specs.List.{list_any}
use Rattle.std.specs.declared.cmp.Ordering.{Ordering}
use Rattle.std.specs.declared.cmp.Ordering.TheVariants.{Less, Equal, Greater}
use Rattle.std.specs.Ordering.{MatchOrdering, is_eq, nat_cmp}
use Rattle.std.proofs.lemmas.Bool.{eq-eqb, eqb-true, ne_eqb}
use Rattle.std.proofs.lemmas.Cmp.{ranked}

-- whether a list of keys has a key
abbrev pub has : ℕ → List ℕ → Bool
has q keys = list_any (is_at (nat_cmp q)) keys

at_is : (k q : ℕ) → is_at (nat_cmp k) q ≡ nat_eq k q
at_is k q = by (nat_cmp k q) (ranked k q (nat_cmp k q) refl)
  where
    by : (o : Ordering) → MatchOrdering o (k < q) (k ≡ q) (q < k) → is_eq o ≡ nat_eq k q
    by Less lt = sym (ne_eqb k q (λ same. omega (arith, lt, same)))
    by Equal same = sym (eq-eqb k q same)
    by Greater lt = sym (ne_eqb k q (λ same. omega (arith, lt, same)))

pub at_other : (k q : ℕ) → q ≢ k → is_at (nat_cmp k) q ≡ false
at_other k q differ = at_is k q ∙ ne_eqb k q (λ same. differ (sym same))

pub at_same : (k q : ℕ) → is_at (nat_cmp k) q ≡ true → q ≡ k
at_same k q is = sym (eqb-true k q (sym (at_is k q) ∙ is))

-- one more
pub record Inserts (old new : ℕ → Bool) (k : ℕ) : Type 0 where
  pub here : new k ≡ true
  pub more : (q : ℕ) → old q ≡ true → new q ≡ true
  pub only : (q : ℕ) → new q ≡ true → (q ≡ k) ⊎ (old q ≡ true)

pub inserted : (old new : BTreeSet ℕ) (k : ℕ) → Updates nat_cmp old new k true → Inserts (contains nat_cmp old) (contains nat_cmp new) k
inserted old new k updates = record {
  here = updates.1;
  more = λ q is. updates.0 q ∙ grown (is_at (nat_cmp k) q) (contains nat_cmp old q) is;
  only = λ q is. by q (is_at (nat_cmp k) q) refl (sym (updates.0 q) ∙ is);
}
  where
    grown : (b c : Bool) → c ≡ true → cond b true c ≡ true
    grown true c is = refl
    grown false c is = is

    by : (q : ℕ) (b : Bool) → is_at (nat_cmp k) q ≡ b → cond b true (contains nat_cmp old q) ≡ true → (q ≡ k) ⊎ (contains nat_cmp old q ≡ true)
    by q true is all = inl (at_same k q is)
    by q false is all = inr all

-- one less
pub record Removes (old new : ℕ → Bool) (k : ℕ) : Type 0 where
  pub others : (q : ℕ) → q ≢ k → new q ≡ false → old q ≡ false
  pub fewer : (q : ℕ) → new q ≡ true → (q ≢ k) × (old q ≡ true)

pub removed : (old new : BTreeSet ℕ) (k : ℕ) → UpdatesBy nat_cmp (nat_cmp k) old new false → Removes (contains nat_cmp old) (contains nat_cmp new) k
removed old new k updates = record {
  others = λ q differ is. sym (updates.2 q (at_other k q differ)) ∙ is;
  fewer = λ q is. by q (is_at (nat_cmp k) q) refl (sym (updates.0 q) ∙ is);
}
  where
    by : (q : ℕ) (b : Bool) → is_at (nat_cmp k) q ≡ b → cond b false (contains nat_cmp old q) ≡ true → (q ≢ k) × (contains nat_cmp old q ≡ true)
    by q true is all = absurd (cc)
    by q false is all = ((λ same. (let there : is_at (nat_cmp k) k ≡ true = at_is k k ∙ eq-eqb k k refl in let here = ap (is_at (nat_cmp k)) same in absurd (cc))), all)

-- there was none to take
pub none_popped : (old new : BTreeSet ℕ) → (0 < length old.keys → false ≡ true) → new.keys ≡ old.keys → (q : ℕ) → contains nat_cmp new q ≡ false
none_popped old new some same q = ap (has q) same ∙ by old.keys some
  where
    by : (keys : List ℕ) → (0 < length keys → false ≡ true) → has q keys ≡ false
    by [] some = refl
    by (k ∷ keys) some = let never : false ≡ true = some (omega arith) in absurd (cc)

-- ── how far they reach ──

-- past the last
abbrev pub top : List ℕ → ℕ
top [] = 0
top (k ∷ keys) = max (suc k) (top keys)

pub top_above : (keys : List ℕ) (q : ℕ) → has q keys ≡ true → q < top keys
top_above [] q is = absurd (cc)
top_above (k ∷ keys) q is = by (is_at (nat_cmp q) k) refl is (top_above keys q)
  where
    by : (b : Bool) → is_at (nat_cmp q) k ≡ b → b || has q keys ≡ true → (has q keys ≡ true → q < top keys) → q < max (suc k) (top keys)
    by true here all later = (let same = at_same q k here in omega (arith, same))
    by false here all later = (let lt = later all in omega (arith, lt))

pub top_within : (keys : List ℕ) (n : ℕ) → ((q : ℕ) → has q keys ≡ true → q < n) → top keys ≤ n
top_within [] n below = omega arith
top_within (k ∷ keys) n below =
    let first : k < n = below k (first_is (at_is k k ∙ eq-eqb k k refl)) in
    let rest : top keys ≤ n = top_within keys n (λ q is. below q (later_is q (is_at (nat_cmp q) k) is)) in
    omega (arith, first, rest)
  where
    first_is : is_at (nat_cmp k) k ≡ true → has k (k ∷ keys) ≡ true
    first_is is = rw is refl

    later_is : (q : ℕ) (b : Bool) → has q keys ≡ true → b || has q keys ≡ true
    later_is q true is = refl
    later_is q false is = is

-- from the first to an end
abbrev pub gap : ℕ → List ℕ → ℕ
gap n [] = 0
gap n (k ∷ keys) = max (n - k) (gap n keys)

pub gap_above : (n : ℕ) (keys : List ℕ) (q : ℕ) → has q keys ≡ true → n - q ≤ gap n keys
gap_above n [] q is = absurd (cc)
gap_above n (k ∷ keys) q is = by (is_at (nat_cmp q) k) refl is (gap_above n keys q)
  where
    by : (b : Bool) → is_at (nat_cmp q) k ≡ b → b || has q keys ≡ true → (has q keys ≡ true → n - q ≤ gap n keys) → n - q ≤ max (n - k) (gap n keys)
    by true here all later = (let same = at_same q k here in omega (arith, same))
    by false here all later = (let le = later all in omega (arith, le))

pub gap_within : (n m : ℕ) (keys : List ℕ) → ((q : ℕ) → has q keys ≡ true → m < q) → gap n keys ≤ n - suc m
gap_within n m [] above = omega arith
gap_within n m (k ∷ keys) above =
    let first : m < k = above k (first_is (at_is k k ∙ eq-eqb k k refl)) in
    let rest : gap n keys ≤ n - suc m = gap_within n m keys (λ q is. above q (later_is q (is_at (nat_cmp q) k) is)) in
    omega (arith, first, rest)
  where
    first_is : is_at (nat_cmp k) k ≡ true → has k (k ∷ keys) ≡ true
    first_is is = rw is refl

    later_is : (q : ℕ) (b : Bool) → has q keys ≡ true → b || has q keys ≡ true
    later_is q true is = refl
    later_is q false is = is
