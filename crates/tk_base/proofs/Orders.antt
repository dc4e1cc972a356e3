-- Where a value stands in the list in the order of numbers, wherever it stood before.
use Rattle.std.proofs.Common.{◌≡◌, ℕ, ◌<◌, ◌≤◌, Bool, true, false, List, [], ◌∷◌, ◌++◌, Some, refl, sym, ap, ◌∙◌, subst, arith}
use Rattle.std.specs.Prelude.{nat_le}
use Rattle.std.proofs.lemmas.Bool.{eq-eqb, leb-true, leb-false, le-leb, lt-leb, ne_eqb}
use Rattle.tk_base.specs.Bag.{insert_in, in_order}
use Rattle.tk_base.specs.Numbered.{numbered, without, changed_at, AllBelow, AllAbove, IsRising}

module _ {X : Type 0} (number : X → ℕ) where
  -- each number is this one or above it
  abbrev pub AllFrom : ℕ → List X → Type 0
  AllFrom n [] = Unit {0}
  AllFrom n (x ∷ xs) = (n ≤ number x) × AllFrom n xs

  -- each number is this one or below it
  abbrev pub AllTo : ℕ → List X → Type 0
  AllTo n [] = Unit {0}
  AllTo n (x ∷ xs) = (number x ≤ n) × AllTo n xs

  abbrev IsOrdered : List X → Type 0
  IsOrdered [] = Unit {0}
  IsOrdered (x ∷ xs) = AllFrom (number x) xs × IsOrdered xs

  from_less : (m n : ℕ) (xs : List X) → m ≤ n → AllFrom n xs → AllFrom m xs
  from_less m n [] le from = tt
  from_less m n (x ∷ xs) le from = (omega (arith, le, from.0), from_less m n xs le from.1)

  to_more : (m n : ℕ) (xs : List X) → m ≤ n → AllTo m xs → AllTo n xs
  to_more m n [] le to = tt
  to_more m n (x ∷ xs) le to = (omega (arith, le, to.0), to_more m n xs le to.1)

  -- ── an insertion ──
  from_insert_by : (n : ℕ) (x y : X) (ys : List X) (b : Bool) → nat_le (number x) (number y) ≡ b → n ≤ number x → AllFrom n (y ∷ ys) → AllFrom n (insert_in number x ys) → AllFrom n (insert_in number x (y ∷ ys))
  from_insert_by n x y ys true is le from h = rw is (le, from)
  from_insert_by n x y ys false is le from h = rw is (from.0, h)

  from_insert : (n : ℕ) (x : X) (ys : List X) → n ≤ number x → AllFrom n ys → AllFrom n (insert_in number x ys)
  from_insert n x [] le from = (le, tt)
  from_insert n x (y ∷ ys) le from = from_insert_by n x y ys (nat_le (number x) (number y)) refl le from (from_insert n x ys le from.1)

  to_insert_by : (n : ℕ) (x y : X) (ys : List X) (b : Bool) → nat_le (number x) (number y) ≡ b → number x ≤ n → AllTo n (y ∷ ys) → AllTo n (insert_in number x ys) → AllTo n (insert_in number x (y ∷ ys))
  to_insert_by n x y ys true is le to h = rw is (le, to)
  to_insert_by n x y ys false is le to h = rw is (to.0, h)

  to_insert : (n : ℕ) (x : X) (ys : List X) → number x ≤ n → AllTo n ys → AllTo n (insert_in number x ys)
  to_insert n x [] le to = (le, tt)
  to_insert n x (y ∷ ys) le to = to_insert_by n x y ys (nat_le (number x) (number y)) refl le to (to_insert n x ys le to.1)

  ordered_insert_by : (x y : X) (ys : List X) (b : Bool) → nat_le (number x) (number y) ≡ b → IsOrdered (y ∷ ys) → IsOrdered (insert_in number x ys) → IsOrdered (insert_in number x (y ∷ ys))
  ordered_insert_by x y ys true is ordered h =
      let le = leb-true (number x) (number y) is in
      rw is ((le, from_less (number x) (number y) ys le ordered.0), ordered)
  ordered_insert_by x y ys false is ordered h =
      let above = leb-false (number x) (number y) is in
      rw is (from_insert (number y) x ys (omega (arith, above)) ordered.0, h)

  ordered_insert : (x : X) (ys : List X) → IsOrdered ys → IsOrdered (insert_in number x ys)
  ordered_insert x [] ordered = (tt, tt)
  ordered_insert x (y ∷ ys) ordered = ordered_insert_by x y ys (nat_le (number x) (number y)) refl ordered (ordered_insert x ys ordered.1)

  ordered_order : (xs : List X) → IsOrdered (in_order number xs)
  ordered_order [] = tt
  ordered_order (x ∷ xs) = ordered_insert x (in_order number xs) (ordered_order xs)

  insert_first : (x : X) (ys : List X) → AllFrom (number x) ys → insert_in number x ys ≡ x ∷ ys
  insert_first x [] from = refl
  insert_first x (y ∷ ys) from = rw (le-leb (number x) (number y) from.0) refl

  -- one that goes among the first of two parts
  insert_front_by : (z y : X) (front rest : List X) (b : Bool) → nat_le (number z) (number y) ≡ b → insert_in number z (front ++ rest) ≡ insert_in number z front ++ rest → insert_in number z (y ∷ front ++ rest) ≡ insert_in number z (y ∷ front) ++ rest
  insert_front_by z y front rest true is h = rw is refl
  insert_front_by z y front rest false is h = rw is (ap (λ zs. y ∷ zs) h)

  insert_front : (z : X) (front rest : List X) → AllFrom (number z) rest → insert_in number z (front ++ rest) ≡ insert_in number z front ++ rest
  insert_front z [] rest from = insert_first z rest from
  insert_front z (y ∷ front) rest from = insert_front_by z y front rest (nat_le (number z) (number y)) refl (insert_front z front rest from)

  -- one that goes behind the first of two parts
  insert_back : (z : X) (n : ℕ) (front rest : List X) → AllTo n front → n < number z → insert_in number z (front ++ rest) ≡ front ++ insert_in number z rest
  insert_back z n [] rest to above = refl
  insert_back z n (y ∷ front) rest to above = rw (lt-leb (number z) (number y) (omega (arith, to.0, above))) (ap (λ zs. y ∷ zs) (insert_back z n front rest to.1 above))

  -- ── where a value stands ──

  -- a list without the value, and the list with a value of its number in its place, differ at one place
  pub record Stands (n : ℕ) (rest : List X) (whole : X → List X) : Type 0 where
    pub front : List X
    pub back : List X
    pub low : AllTo n front
    pub high : AllFrom n back
    pub rest_is : rest ≡ front ++ back
    pub whole_is : (y : X) → number y ≡ n → whole y ≡ front ++ y ∷ back

  last_by : (n : ℕ) (z : X) (zs : List X) (b : Bool) → nat_le n (number z) ≡ b → IsOrdered (z ∷ zs) → Stands n zs (λ y. insert_in number y zs) → Stands n (z ∷ zs) (λ y. insert_in number y (z ∷ zs))
  last_by n z zs true is ordered h =
      let le = leb-true n (number z) is in
      let high : AllFrom n (z ∷ zs) = (le, from_less n (number z) zs le ordered.0) in
      record { front = []; back = z ∷ zs; low = tt; high = high; rest_is = refl; whole_is = λ y same. insert_first y (z ∷ zs) (subst (λ m. AllFrom m (z ∷ zs)) (sym same) high) }
  last_by n z zs false is ordered h =
      let above = leb-false n (number z) is in
      record {
        front = z ∷ h.front;
        back = h.back;
        low = (omega (arith, above), h.low);
        high = h.high;
        rest_is = ap (λ xs. z ∷ xs) h.rest_is;
        whole_is = λ y same. rw (ap (λ m. nat_le m (number z)) same ∙ is) (ap (λ xs. z ∷ xs) (h.whole_is y same));
      }

  last_stands : (n : ℕ) (zs : List X) → IsOrdered zs → Stands n zs (λ y. insert_in number y zs)
  last_stands n [] ordered = record { front = []; back = []; low = tt; high = tt; rest_is = refl; whole_is = λ y same. refl }
  last_stands n (z ∷ zs) ordered = last_by n z zs (nat_le n (number z)) refl ordered (last_stands n zs ordered.1)

  next_by : (n : ℕ) (z : X) (rest : List X) (whole : X → List X) (b : Bool) → nat_le (number z) n ≡ b → Stands n rest whole → Stands n (insert_in number z rest) (λ y. insert_in number z (whole y))
  next_by n z rest whole true is h =
      let le = leb-true (number z) n is in
      let high : AllFrom (number z) h.back = from_less (number z) n h.back le h.high in
      record {
        front = insert_in number z h.front;
        back = h.back;
        low = to_insert n z h.front le h.low;
        high = h.high;
        rest_is = ap (insert_in number z) h.rest_is ∙ insert_front z h.front h.back high;
        whole_is = λ y same. ap (insert_in number z) (h.whole_is y same) ∙ insert_front z h.front (y ∷ h.back) (rw same le, high);
      }
  next_by n z rest whole false is h =
      let above = leb-false (number z) n is in
      record {
        front = h.front;
        back = insert_in number z h.back;
        low = h.low;
        high = from_insert n z h.back (omega (arith, above)) h.high;
        rest_is = ap (insert_in number z) h.rest_is ∙ insert_back z n h.front h.back h.low (omega (arith, above));
        whole_is = λ y same. ap (insert_in number z) (h.whole_is y same) ∙ insert_back z n h.front (y ∷ h.back) h.low (omega (arith, above)) ∙ ap (λ zs. h.front ++ zs) (rw (ap (λ m. nat_le (number z) m) same ∙ is) refl);
      }

  -- a value anywhere among others
  pub stands : (n : ℕ) (a b : List X) → Stands n (in_order number (a ++ b)) (λ y. in_order number (a ++ y ∷ b))
  stands n [] b = last_stands n (in_order number b) (ordered_order b)
  stands n (z ∷ a) b = next_by n z (in_order number (a ++ b)) (λ y. in_order number (a ++ y ∷ b)) (nat_le (number z) n) refl (stands n a b)

  -- ── the lists in rising order ──
  above_less : (m n : ℕ) (xs : List X) → m ≤ n → AllAbove number n xs → AllAbove number m xs
  above_less m n [] le above = tt
  above_less m n (x ∷ xs) le above = (omega (arith, le, above.0), above_less m n xs le above.1)

  above_part : (n : ℕ) (front : List X) (x : X) (back : List X) → AllAbove number n (front ++ x ∷ back) → n < number x
  above_part n [] x back above = above.0
  above_part n (y ∷ front) x back above = above_part n front x back above.1

  none_above : (n : ℕ) (xs : List X) → AllAbove number n xs → without number n xs ≡ xs
  none_above n [] above = refl
  none_above n (x ∷ xs) above = rw (ne_eqb (number x) n (λ e. omega (arith, e, above.0))) (ap (λ zs. x ∷ zs) (none_above n xs above.1))

  none_changed : (n : ℕ) (change : X → X) (xs : List X) → AllAbove number n xs → changed_at number n change xs ≡ xs
  none_changed n change [] above = refl
  none_changed n change (x ∷ xs) above = rw (ne_eqb (number x) n (λ e. omega (arith, e, above.0))) (ap (λ zs. x ∷ zs) (none_changed n change xs above.1))

  pub found_there : (front : List X) (x : X) (back : List X) → IsRising number (front ++ x ∷ back) → numbered number (number x) (front ++ x ∷ back) ≡ Some x
  found_there [] x back rising = rw (eq-eqb (number x) (number x) refl) refl
  found_there (y ∷ front) x back rising = rw (ne_eqb (number y) (number x) (λ e. omega (arith, e, above_part (number y) front x back rising.0))) (found_there front x back rising.1)

  pub gone_there : (front : List X) (x : X) (back : List X) → IsRising number (front ++ x ∷ back) → without number (number x) (front ++ x ∷ back) ≡ front ++ back
  gone_there [] x back rising = rw (eq-eqb (number x) (number x) refl) (none_above (number x) back rising.0)
  gone_there (y ∷ front) x back rising = rw (ne_eqb (number y) (number x) (λ e. omega (arith, e, above_part (number y) front x back rising.0))) (ap (λ zs. y ∷ zs) (gone_there front x back rising.1))

  pub changed_there : (change : X → X) (front : List X) (x : X) (back : List X) → IsRising number (front ++ x ∷ back) → changed_at number (number x) change (front ++ x ∷ back) ≡ front ++ change x ∷ back
  changed_there change [] x back rising = rw (eq-eqb (number x) (number x) refl) (ap (λ zs. change x ∷ zs) (none_changed (number x) change back rising.0))
  changed_there change (y ∷ front) x back rising = rw (ne_eqb (number y) (number x) (λ e. omega (arith, e, above_part (number y) front x back rising.0))) (ap (λ zs. y ∷ zs) (changed_there change front x back rising.1))

  -- nothing stands behind one that is above all
  pub nothing_behind : (n : ℕ) (front back : List X) → AllBelow number n (front ++ back) → AllFrom n back → back ≡ []
  nothing_behind n [] [] below from = refl
  nothing_behind n [] (y ∷ back) below from = absurd (omega (arith, below.0, from.0))
  nothing_behind n (x ∷ front) back below from = nothing_behind n front back below.1 from
