-- Lists in the rising order of numbers that their elements have, which those that have each number decide.
use Rattle.std.proofs.Common.{◌≡◌, ◌≢◌, ℕ, ◌<◌, ◌≤◌, zero, suc, Bool, true, false, cond, List, [], ◌∷◌, ◌++◌, not, ◌||◌, refl, sym, ap, subst, ◌∙◌, ⊎_elim, true≢false, arith}
use Rattle.std.specs.Prelude.{◌==◌, nat_lt, filter, insert}
use Rattle.std.specs.List.{list_any}
use Rattle.std.proofs.lemmas.Bool.{eq-eqb, ne_eqb, eqb-true, eqb-false, lt-ltb, ltb-true, cases_order}
use Rattle.std.proofs.lemmas.List.{append-nil}
use Rattle.std.proofs.lemmas.List.Elements.{filter-append}
use Rattle.tk_packer.specs.Packs.{lesser, greater, replaced, without_number}
use Rattle.tk_packer.specs.Tables.{rising}

-- ---- filters

module _ {X : Type 0} where
  -- two filters in either order
  pub filter_swap : (p q : X → Bool) (xs : List X) → filter p (filter q xs) ≡ filter q (filter p xs)
  filter_swap p q [] = refl
  filter_swap p q (x ∷ xs) = at (p x) (q x) refl refl (filter_swap p q xs)
    where
      at : (b d : Bool) → p x ≡ b → q x ≡ d → filter p (filter q xs) ≡ filter q (filter p xs) → filter p (cond (q x) (x ∷ filter q xs) (filter q xs)) ≡ filter q (cond (p x) (x ∷ filter p xs) (filter p xs))
      at true true pb qd rest = rw (pb, qd, pb) (ap (λ (ys : List X). x ∷ ys) rest)
      at true false pb qd rest = rw (pb, qd) rest
      at false true pb qd rest = rw (pb, qd, pb) rest
      at false false pb qd rest = rw (pb, qd) rest

  -- none of those that pass one test passes the other
  pub none_kept : (p q : X → Bool) (xs : List X) → ((x : X) → q x ≡ true → p x ≡ false) → filter p (filter q xs) ≡ []
  none_kept p q [] apart = refl
  none_kept p q (x ∷ xs) apart = at (q x) refl (none_kept p q xs apart)
    where
      at : (b : Bool) → q x ≡ b → filter p (filter q xs) ≡ [] → filter p (cond (q x) (x ∷ filter q xs) (filter q xs)) ≡ []
      at true is rest = rw (is, apart x is) rest
      at false is rest = rw is rest

  -- each that passes one test passes the other
  pub all_kept : (p q : X → Bool) (xs : List X) → ((x : X) → p x ≡ true → q x ≡ true) → filter p (filter q xs) ≡ filter p xs
  all_kept p q [] within = refl
  all_kept p q (x ∷ xs) within = at (p x) (q x) refl refl (all_kept p q xs within)
    where
      at : (b d : Bool) → p x ≡ b → q x ≡ d → filter p (filter q xs) ≡ filter p xs → filter p (cond (q x) (x ∷ filter q xs) (filter q xs)) ≡ cond (p x) (x ∷ filter p xs) (filter p xs)
      at true d pb qd rest = rw (within x pb, pb) (ap (λ (ys : List X). x ∷ ys) rest)
      at false true pb qd rest = rw (qd, pb) rest
      at false false pb qd rest = rw (qd, pb) rest

  -- each passes
  abbrev pub AllPass : (X → Bool) → List X → Type 0
  AllPass p [] = Unit {0}
  AllPass p (x ∷ xs) = (p x ≡ true) × AllPass p xs

  kept_pass : (p : X → Bool) (xs : List X) → AllPass p (filter p xs)
  kept_pass p [] = tt
  kept_pass p (x ∷ xs) = at (p x) refl (kept_pass p xs)
    where
      at : (b : Bool) → p x ≡ b → AllPass p (filter p xs) → AllPass p (cond (p x) (x ∷ filter p xs) (filter p xs))
      at true is rest = rw is (is, rest)
      at false is rest = rw is rest

  passing_stay : (p : X → Bool) (xs : List X) → AllPass p xs → filter p xs ≡ xs
  passing_stay p [] pass = refl
  passing_stay p (x ∷ xs) pass = rw pass.0 (ap (λ (ys : List X). x ∷ ys) (passing_stay p xs pass.1))

  insert_passes : (p : X → Bool) (xs : List X) (i : ℕ) (x : X) → p x ≡ true → AllPass p xs → AllPass p (insert xs i x)
  insert_passes p xs zero x is pass = (is, pass)
  insert_passes p [] (suc i) x is pass = (is, tt)
  insert_passes p (y ∷ ys) (suc i) x is pass = (pass.0, insert_passes p ys i x is pass.1)

  -- one more that passes, among those that pass
  pub insert_kept : (p : X → Bool) (xs : List X) (i : ℕ) (x : X) → p x ≡ true → filter p xs ≡ xs → filter p (insert xs i x) ≡ insert xs i x
  insert_kept p xs i x is same = passing_stay p (insert xs i x) (insert_passes p xs i x is (subst (AllPass p) same (kept_pass p xs)))

-- ---- the order

module _ {X : Type 0} (number : X → ℕ) where
  -- those that have a number
  abbrev pub having : ℕ → List X → List X
  having n xs = filter (λ x. number x == n) xs

  -- each number is this one or above it
  abbrev AllFrom : ℕ → List X → Type 0
  AllFrom n [] = Unit {0}
  AllFrom n (x ∷ xs) = (n ≤ number x) × AllFrom n xs

  -- each number is this one or below it
  abbrev AllTo : ℕ → List X → Type 0
  AllTo n [] = Unit {0}
  AllTo n (x ∷ xs) = (number x ≤ n) × AllTo n xs

  abbrev pub IsOrdered : List X → Type 0
  IsOrdered [] = Unit {0}
  IsOrdered (x ∷ xs) = AllFrom (number x) xs × IsOrdered xs

  from_less : (m n : ℕ) (xs : List X) → m ≤ n → AllFrom n xs → AllFrom m xs
  from_less m n [] le from = tt
  from_less m n (x ∷ xs) le from = (omega (arith, le, from.0), from_less m n xs le from.1)

  from_append : (n : ℕ) (xs ys : List X) → AllFrom n xs → AllFrom n ys → AllFrom n (xs ++ ys)
  from_append n [] ys one other = other
  from_append n (x ∷ xs) ys one other = (one.0, from_append n xs ys one.1 other)

  from_filter : (n : ℕ) (p : X → Bool) (xs : List X) → AllFrom n xs → AllFrom n (filter p xs)
  from_filter n p [] from = tt
  from_filter n p (x ∷ xs) from = at (p x) refl (from_filter n p xs from.1)
    where
      at : (b : Bool) → p x ≡ b → AllFrom n (filter p xs) → AllFrom n (cond (p x) (x ∷ filter p xs) (filter p xs))
      at true is rest = rw is (from.0, rest)
      at false is rest = rw is rest

  pub ordered_filter : (p : X → Bool) (xs : List X) → IsOrdered xs → IsOrdered (filter p xs)
  ordered_filter p [] ordered = tt
  ordered_filter p (x ∷ xs) ordered = at (p x) refl (ordered_filter p xs ordered.1)
    where
      at : (b : Bool) → p x ≡ b → IsOrdered (filter p xs) → IsOrdered (cond (p x) (x ∷ filter p xs) (filter p xs))
      at true is rest = rw is (from_filter (number x) p xs ordered.0, rest)
      at false is rest = rw is rest

  ordered_append : (n : ℕ) (xs ys : List X) → IsOrdered xs → IsOrdered ys → AllTo n xs → AllFrom n ys → IsOrdered (xs ++ ys)
  ordered_append n [] ys one other to from = other
  ordered_append n (x ∷ xs) ys one other to from =
      (from_append (number x) xs ys one.0 (from_less (number x) n ys to.0 from), ordered_append n xs ys one.1 other to.1 from)

  to_lesser : (n : ℕ) (xs : List X) → AllTo n (lesser number n xs)
  to_lesser n [] = tt
  to_lesser n (x ∷ xs) = at (nat_lt (number x) n) refl (to_lesser n xs)
    where
      at : (b : Bool) → nat_lt (number x) n ≡ b → AllTo n (lesser number n xs) → AllTo n (cond (nat_lt (number x) n) (x ∷ lesser number n xs) (lesser number n xs))
      at true is rest = let lt = ltb-true (number x) n is in rw is (omega (arith, lt), rest)
      at false is rest = rw is rest

  from_greater : (n : ℕ) (xs : List X) → AllFrom n (greater number n xs)
  from_greater n [] = tt
  from_greater n (x ∷ xs) = at (nat_lt n (number x)) refl (from_greater n xs)
    where
      at : (b : Bool) → nat_lt n (number x) ≡ b → AllFrom n (greater number n xs) → AllFrom n (cond (nat_lt n (number x)) (x ∷ greater number n xs) (greater number n xs))
      at true is rest = let lt = ltb-true n (number x) is in rw is (omega (arith, lt), rest)
      at false is rest = rw is rest

  -- those of one number are in order, and lie at it
  record LieAt (n : ℕ) (xs : List X) : Type 0 where
    to : AllTo n xs
    from : AllFrom n xs
    ordered : IsOrdered xs

  lie_at : (n : ℕ) (xs : List X) → LieAt n (having n xs)
  lie_at n [] = record { to = tt; from = tt; ordered = tt }
  lie_at n (x ∷ xs) = at (number x == n) refl (lie_at n xs)
    where
      at : (b : Bool) → (number x == n) ≡ b → LieAt n (having n xs) → LieAt n (cond (number x == n) (x ∷ having n xs) (having n xs))
      at true is rest =
          let same = eqb-true (number x) n is in
          rw is (record {
            to = (omega (arith, same), rest.to);
            from = (omega (arith, same), rest.from);
            ordered = (from_less (number x) n (having n xs) (omega (arith, same)) rest.from, rest.ordered);
          })
      at false is rest = rw is rest

  -- others of a number in the place of those that have it leave the order
  pub ordered_replaced : (n : ℕ) (new xs : List X) → having n new ≡ new → IsOrdered xs → IsOrdered (replaced number n new xs)
  ordered_replaced n new xs all ordered =
      let lie : LieAt n new = subst (LieAt n) all (lie_at n new) in
      let back : IsOrdered (greater number n xs) = ordered_filter (λ x. nat_lt n (number x)) xs ordered in
      ordered_append n (lesser number n xs) (new ++ greater number n xs)
      (ordered_filter (λ x. nat_lt (number x) n) xs ordered)
      (ordered_append n new (greater number n xs) lie.ordered back lie.to (from_greater n xs))
      (to_lesser n xs)
      (from_append n new (greater number n xs) lie.from (from_greater n xs))

  -- ---- who has a number, after such a change

  parts_having : (m n : ℕ) (new xs : List X) → having m (replaced number n new xs) ≡ having m (lesser number n xs) ++ (having m new ++ having m (greater number n xs))
  parts_having m n new xs =
      filter-append (λ x. number x == m) (lesser number n xs) (new ++ greater number n xs)
      ∙ ap (λ ys. having m (lesser number n xs) ++ ys) (filter-append (λ x. number x == m) new (greater number n xs))

  -- of the number itself, the new ones
  pub having_replaced : (n : ℕ) (new xs : List X) → having n (replaced number n new xs) ≡ having n new
  having_replaced n new xs =
      let front : having n (lesser number n xs) ≡ [] = none_kept (λ x. number x == n) (λ x. nat_lt (number x) n) xs
      (λ x is. let lt = ltb-true (number x) n is in ne_eqb (number x) n (λ same. omega (arith, lt, same))) in
      let back : having n (greater number n xs) ≡ [] = none_kept (λ x. number x == n) (λ x. nat_lt n (number x)) xs
      (λ x is. let lt = ltb-true n (number x) is in ne_eqb (number x) n (λ same. omega (arith, lt, same))) in
      parts_having n n new xs
      ∙ ap (λ ys. ys ++ (having n new ++ having n (greater number n xs))) front
      ∙ ap (λ ys. having n new ++ ys) back
      ∙ append-nil (having n new)

  -- of any other number, those that were there
  pub having_replaced_other : (m n : ℕ) (new xs : List X) → m ≢ n → having m new ≡ [] → having m (replaced number n new xs) ≡ having m xs
  having_replaced_other m n new xs differ none =
      parts_having m n new xs
      ∙ ap (λ ys. having m (lesser number n xs) ++ (ys ++ having m (greater number n xs))) none
      ∙ ⊎_elim (λ same. absurd (differ same)) (λ apart. ⊎_elim below above apart) (cases_order m n)
    where
      below : m < n → having m (lesser number n xs) ++ having m (greater number n xs) ≡ having m xs
      below lt =
          let back : having m (greater number n xs) ≡ [] = none_kept (λ x. number x == m) (λ x. nat_lt n (number x)) xs
          (λ x is. let more = ltb-true n (number x) is in ne_eqb (number x) m (λ same. omega (arith, lt, more, same))) in
          ap (λ ys. having m (lesser number n xs) ++ ys) back ∙ append-nil (having m (lesser number n xs))
          ∙ all_kept (λ x. number x == m) (λ x. nat_lt (number x) n) xs
          (λ x is. let same = eqb-true (number x) m is in lt-ltb (number x) n (omega (arith, lt, same)))

      above : n < m → having m (lesser number n xs) ++ having m (greater number n xs) ≡ having m xs
      above lt =
          let front : having m (lesser number n xs) ≡ [] = none_kept (λ x. number x == m) (λ x. nat_lt (number x) n) xs
          (λ x is. let less = ltb-true (number x) n is in ne_eqb (number x) m (λ same. omega (arith, lt, less, same))) in
          ap (λ ys. ys ++ having m (greater number n xs)) front
          ∙ all_kept (λ x. number x == m) (λ x. nat_lt n (number x)) xs
          (λ x is. let same = eqb-true (number x) m is in lt-ltb n (number x) (omega (arith, lt, same)))

  -- ---- lists in order are the same where each number has the same

  none_below : (m n : ℕ) (xs : List X) → m < n → AllFrom n xs → having m xs ≡ []
  none_below m n [] lt from = refl
  none_below m n (x ∷ xs) lt from =
      let fails : (number x == m) ≡ false = ne_eqb (number x) m (λ same. omega (arith, lt, from.0, same)) in
      rw fails (none_below m n xs lt from.1)

  having_first : (x : X) (xs : List X) → having (number x) (x ∷ xs) ≡ x ∷ having (number x) xs
  having_first x xs = rw (eq-eqb (number x) (number x) refl) refl

  abbrev first_or : X → List X → X
  first_or d [] = d
  first_or d (x ∷ xs) = x

  abbrev rest_of : List X → List X
  rest_of [] = []
  rest_of (x ∷ xs) = xs

  abbrev IsNil : List X → Type 0
  IsNil [] = Unit {0}
  IsNil (x ∷ xs) = ⊥

  nil_or_more : (x : X) (xs : List X) → [] ≡ x ∷ xs → ⊥
  nil_or_more x xs same = subst IsNil same tt

  same_rest : (b : Bool) (x : X) (xs ys : List X) → cond b (x ∷ xs) xs ≡ cond b (x ∷ ys) ys → xs ≡ ys
  same_rest true x xs ys same = ap rest_of same
  same_rest false x xs ys same = same

  pub same_from_having : (xs ys : List X) → IsOrdered xs → IsOrdered ys → ((n : ℕ) → having n xs ≡ having n ys) → xs ≡ ys
  same_from_having [] [] one other alike = refl
  same_from_having [] (y ∷ ys) one other alike = absurd (nil_or_more y (having (number y) ys) (alike (number y) ∙ having_first y ys))
  same_from_having (x ∷ xs) [] one other alike = absurd (nil_or_more x (having (number x) xs) (sym (alike (number x)) ∙ having_first x xs))
  same_from_having (x ∷ xs) (y ∷ ys) one other alike =
      ⊎_elim (equal (same_from_having xs ys one.1 other.1)) (λ apart. ⊎_elim less more apart) (cases_order (number x) (number y))
    where
      equal : (((n : ℕ) → having n xs ≡ having n ys) → xs ≡ ys) → number x ≡ number y → x ∷ xs ≡ y ∷ ys
      equal tails same =
          let first : x ∷ having (number x) xs ≡ y ∷ having (number y) ys =
          sym (having_first x xs) ∙ alike (number x) ∙ ap (λ n. having n (y ∷ ys)) same ∙ having_first y ys in
          let head : x ≡ y = ap (first_or x) first in
          let rest : (n : ℕ) → having n xs ≡ having n ys =
          λ n. same_rest (number x == n) x (having n xs) (having n ys) (subst (λ z. having n (x ∷ xs) ≡ having n (z ∷ ys)) (sym head) (alike n)) in
          ap (λ z. z ∷ xs) head ∙ ap (λ zs. y ∷ zs) (tails rest)

      less : number x < number y → x ∷ xs ≡ y ∷ ys
      less lt =
          let from : AllFrom (number y) (y ∷ ys) = (omega arith, other.0) in
          absurd (nil_or_more x (having (number x) xs) (sym (none_below (number x) (number y) (y ∷ ys) lt from) ∙ sym (alike (number x)) ∙ having_first x xs))

      more : number y < number x → x ∷ xs ≡ y ∷ ys
      more lt =
          let from : AllFrom (number x) (x ∷ xs) = (omega arith, one.0) in
          absurd (nil_or_more y (having (number y) ys) (sym (none_below (number y) (number x) (x ∷ xs) lt from) ∙ alike (number y) ∙ having_first y ys))

-- ---- numbers in rising order

abbrev pub itself : ℕ → ℕ
itself n = n

pub ordered_rising : (ns : List ℕ) → IsOrdered itself (rising ns)
ordered_rising [] = tt
ordered_rising (n ∷ ns) = ordered_replaced itself n (n ∷ []) (rising ns) (having_first itself n []) (ordered_rising ns)

-- each number that stands in a list stands once in their order
pub having_rising : (n : ℕ) (ns : List ℕ) → having itself n (rising ns) ≡ cond (list_any (λ m. n == m) ns) (n ∷ []) []
having_rising n [] = refl
having_rising n (m ∷ ns) = at (n == m) refl (having_rising n ns)
  where
    at : (b : Bool) → (n == m) ≡ b → having itself n (rising ns) ≡ cond (list_any (λ k. n == k) ns) (n ∷ []) [] →
        having itself n (replaced itself m (m ∷ []) (rising ns)) ≡ cond ((n == m) || list_any (λ k. n == k) ns) (n ∷ []) []
    at true is rest =
        let same : n ≡ m = eqb-true n m is in
        rw is (subst (λ k. having itself n (replaced itself k (k ∷ []) (rising ns)) ≡ n ∷ []) same (having_replaced itself n (n ∷ []) (rising ns) ∙ having_first itself n []))
    at false is rest =
        let differ : n ≢ m = eqb-false n m is in
        let none : having itself n (m ∷ []) ≡ [] = rw (ne_eqb m n (λ same. differ (sym same))) refl in
        rw is (having_replaced_other itself n m (m ∷ []) (rising ns) differ none ∙ rest)

abbrev has_any : List ℕ → Bool
has_any [] = false
has_any (n ∷ ns) = true

any_having : (n : ℕ) (ns : List ℕ) → list_any (λ m. m == n) ns ≡ has_any (having itself n ns)
any_having n [] = refl
any_having n (m ∷ ns) = at (m == n) refl (any_having n ns)
  where
    at : (b : Bool) → (m == n) ≡ b → list_any (λ k. k == n) ns ≡ has_any (having itself n ns) →
        ((m == n) || list_any (λ k. k == n) ns) ≡ has_any (cond (m == n) (m ∷ having itself n ns) (having itself n ns))
    at true is rest = rw is refl
    at false is rest = rw is rest

has_cond : (b : Bool) (n : ℕ) → has_any (cond b (n ∷ []) []) ≡ b
has_cond true n = refl
has_cond false n = refl

-- whether a number stands in the order
pub any_rising : (n : ℕ) (ns : List ℕ) → list_any (λ m. m == n) (rising ns) ≡ list_any (λ m. n == m) ns
any_rising n ns = any_having n (rising ns) ∙ ap has_any (having_rising n ns) ∙ has_cond (list_any (λ m. n == m) ns) n

-- one more number
pub rising_more : (n : ℕ) (old new : List ℕ) → ((m : ℕ) → list_any (λ k. m == k) new ≡ cond (n == m) true (list_any (λ k. m == k) old)) →
    rising new ≡ replaced itself n (n ∷ []) (rising old)
rising_more n old new has =
    same_from_having itself (rising new) (replaced itself n (n ∷ []) (rising old))
    (ordered_rising new) (ordered_replaced itself n (n ∷ []) (rising old) (having_first itself n []) (ordered_rising old))
    (λ m. having_rising m new ∙ ap (λ b. cond b (m ∷ []) []) (has m) ∙ at m (n == m) refl)
  where
    at : (m : ℕ) (b : Bool) → (n == m) ≡ b → cond (cond (n == m) true (list_any (λ k. m == k) old)) (m ∷ []) [] ≡ having itself m (replaced itself n (n ∷ []) (rising old))
    at m true is =
        let same : n ≡ m = eqb-true n m is in
        rw is (subst (λ k. m ∷ [] ≡ having itself m (replaced itself k (k ∷ []) (rising old))) (sym same) (sym (having_replaced itself m (m ∷ []) (rising old) ∙ having_first itself m [])))
    at m false is =
        let differ : n ≢ m = eqb-false n m is in
        let none : having itself m (n ∷ []) ≡ [] = rw is refl in
        rw is (sym (having_replaced_other itself m n (n ∷ []) (rising old) (λ same. differ (sym same)) none ∙ having_rising m old))

-- one number less
pub rising_less : (n : ℕ) (old new : List ℕ) → ((m : ℕ) → list_any (λ k. m == k) new ≡ cond (n == m) false (list_any (λ k. m == k) old)) →
    rising new ≡ without_number n (rising old)
rising_less n old new has =
    same_from_having itself (rising new) (without_number n (rising old))
    (ordered_rising new) (ordered_filter itself (λ k. not (k == n)) (rising old) (ordered_rising old))
    (λ m. having_rising m new ∙ ap (λ b. cond b (m ∷ []) []) (has m) ∙ at m (n == m) refl)
  where
    at : (m : ℕ) (b : Bool) → (n == m) ≡ b → cond (cond (n == m) false (list_any (λ k. m == k) old)) (m ∷ []) [] ≡ having itself m (without_number n (rising old))
    at m true is =
        let same : n ≡ m = eqb-true n m is in
        rw is (sym (none_kept (λ k. k == m) (λ k. not (k == n)) (rising old) (λ k other. apart k m same (k == n) refl other)))
      where
        apart : (k m : ℕ) → n ≡ m → (b : Bool) → (k == n) ≡ b → not (k == n) ≡ true → (k == m) ≡ false
        apart k m same true is other = absurd (true≢false (sym other ∙ ap not is))
        apart k m same false is other = ap (λ z. k == z) (sym same) ∙ is
    at m false is =
        let differ : n ≢ m = eqb-false n m is in
        rw is (sym (all_kept (λ k. k == m) (λ k. not (k == n)) (rising old)
        (λ k here. let at : k ≡ m = eqb-true k m here in ap not (ne_eqb k n (λ same. differ (sym same ∙ at)))) ∙ having_rising m old))
