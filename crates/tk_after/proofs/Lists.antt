-- Lists of entries by what stands in them, and by their numbers.
use Rattle.std.proofs.Common.{◌≡◌, ℕ, ◌<◌, Bool, true, false, List, [], ◌∷◌, ◌++◌, Some, None, refl, sym, ap, ◌∙◌, subst, ◌⊎◌, inl, inr, arith}
use Rattle.std.specs.Prelude.{◌==◌, nat_le, find}
use Rattle.std.proofs.lemmas.Bool.{eqb-true, eq-eqb, ne_eqb, le-leb}
use Rattle.std.proofs.lemmas.Option.{none-some, same_Some}
use Rattle.tk_base.specs.Bag.{Item, insert_in, in_order, listed}
use Rattle.tk_base.specs.Numbered.{numbered, without, AllBelow, AllAbove, IsRising}
use Rattle.tk_base.proofs.Owners.{item, own_stands}

abbrev pub Has : {X : Type 0} → X → List X → Type 0
Has x [] = ⊥
Has x (y ∷ ys) = (y ≡ x) ⊎ Has x ys

module _ {X : Type 0} where
  pub has_part : (x : X) (front back : List X) → Has x (front ++ x ∷ back)
  has_part x [] back = inl refl
  has_part x (y ∷ front) back = inr (has_part x front back)

  found_by : (test : X → Bool) (x y : X) (ys : List X) (b : Bool) → test y ≡ b → (find test ys ≡ Some x → Has x ys × (test x ≡ true)) → find test (y ∷ ys) ≡ Some x → Has x (y ∷ ys) × (test x ≡ true)
  found_by test x y ys true is rest found = let same : y ≡ x = same_Some _ _ (rw is at found) in (inl same, ap test (sym same) ∙ is)
  found_by test x y ys false is rest found = let h = rest (rw is at found) in (inr h.0, h.1)

  -- what is found stands there and passes
  pub found_has : (test : X → Bool) (x : X) (xs : List X) → find test xs ≡ Some x → Has x xs × (test x ≡ true)
  found_has test x [] found = absurd (none-some _ found)
  found_has test x (y ∷ ys) found = found_by test x y ys (test y) refl (found_has test x ys) found

  module _ (number : X → ℕ) where
    insert_has_by : (x y z : X) (zs : List X) (b : Bool) → nat_le (number y) (number z) ≡ b → (Has x (insert_in number y zs) → (y ≡ x) ⊎ Has x zs) → Has x (insert_in number y (z ∷ zs)) → (y ≡ x) ⊎ Has x (z ∷ zs)
    insert_has_by x y z zs true is rest has = rw is at has
    insert_has_by x y z zs false is rest has = first (rw is at has)
      where
        later : (y ≡ x) ⊎ Has x zs → (y ≡ x) ⊎ Has x (z ∷ zs)
        later (inl same) = inl same
        later (inr there) = inr (inr there)

        first : (z ≡ x) ⊎ Has x (insert_in number y zs) → (y ≡ x) ⊎ Has x (z ∷ zs)
        first (inl same) = inr (inl same)
        first (inr there) = later (rest there)

    insert_has : (x y : X) (zs : List X) → Has x (insert_in number y zs) → (y ≡ x) ⊎ Has x zs
    insert_has x y [] has = has
    insert_has x y (z ∷ zs) has = insert_has_by x y z zs (nat_le (number y) (number z)) refl (insert_has x y zs) has

    bag_has_by : (owner : ℕ) (x : X) (y : Item X) (ys : List (Item X)) (b : Bool) → (y.owner == owner) ≡ b → (Has x (listed number owner ys) → Has (item owner x) ys) → Has x (listed number owner (y ∷ ys)) → Has (item owner x) (y ∷ ys)
    bag_has_by owner x y ys true is rest has = first (insert_has x y.value (listed number owner ys) (rw is at has))
      where
        here : y.owner ≡ owner → y.value ≡ x → y ≡ item owner x
        here its_owner its_value = ap (λ o. item o y.value) its_owner ∙ ap (λ v. item owner v) its_value

        first : (y.value ≡ x) ⊎ Has x (listed number owner ys) → Has (item owner x) (y ∷ ys)
        first (inl same) = inl (here (eqb-true y.owner owner is) same)
        first (inr there) = inr (rest there)
    bag_has_by owner x y ys false is rest has = inr (rest (rw is at has))

    -- what an owner has stands in the bag as its
    pub bag_has : (owner : ℕ) (x : X) (bag : List (Item X)) → Has x (listed number owner bag) → Has (item owner x) bag
    bag_has owner x [] has = has
    bag_has owner x (y ∷ ys) has = bag_has_by owner x y ys (y.owner == owner) refl (bag_has owner x ys) has

    -- and the other way
    pub listed_has : (owner : ℕ) (x : X) (front back : List (Item X)) → Has x (listed number owner (front ++ item owner x ∷ back))
    listed_has owner x front back =
        let s = own_stands number owner (number x) front back in
        subst (Has x) (sym (s.whole_is x refl)) (has_part x s.front s.back)

    -- ── rising numbers ──
    insert_first : (x : X) (xs : List X) → AllAbove number (number x) xs → insert_in number x xs ≡ x ∷ xs
    insert_first x [] above = refl
    insert_first x (y ∷ ys) above = rw (le-leb (number x) (number y) (omega (arith, above.0))) refl

    pub in_order-rising : (xs : List X) → IsRising number xs → in_order number xs ≡ xs
    in_order-rising [] rising = refl
    in_order-rising (x ∷ xs) rising = ap (insert_in number x) (in_order-rising xs rising.1) ∙ insert_first x xs rising.0

    absent_by : (id : ℕ) (x : X) (xs : List X) (b : Bool) → (number x == id) ≡ b → (numbered number id xs ≡ None → without number id xs ≡ xs) → numbered number id (x ∷ xs) ≡ None → without number id (x ∷ xs) ≡ x ∷ xs
    absent_by id x xs true is rest none = absurd (cc (rw is at none))
    absent_by id x xs false is rest none = rw is (ap (λ zs. x ∷ zs) (rest (rw is at none)))

    -- a number that isn't there takes nothing out
    pub without_absent : (id : ℕ) (xs : List X) → numbered number id xs ≡ None → without number id xs ≡ xs
    without_absent id [] none = refl
    without_absent id (x ∷ xs) none = absent_by id x xs (number x == id) refl (without_absent id xs) none

    -- a number that is above all isn't there
    pub not_below : (id : ℕ) (x : X) (xs : List X) → AllBelow number id xs → Has x xs → number x ≡ id → ⊥
    not_below id x [] below has is = has
    not_below id x (y ∷ ys) below (inl same) is = let h : number y ≡ number x = ap number same in omega (arith, below.0, h, is)
    not_below id x (y ∷ ys) below (inr there) is = not_below id x ys below.1 there is

    numbered_above : (id : ℕ) (x : X) (xs : List X) → AllAbove number id xs → Has x xs → id < number x
    numbered_above id x [] above has = absurd has
    numbered_above id x (y ∷ ys) above (inl same) = let h : number y ≡ number x = ap number same in omega (arith, above.0, h)
    numbered_above id x (y ∷ ys) above (inr there) = numbered_above id x ys above.1 there

    -- what stands there is found by its number
    pub numbered_has : (x : X) (xs : List X) → IsRising number xs → Has x xs → numbered number (number x) xs ≡ Some x
    numbered_has x [] rising has = absurd has
    numbered_has x (y ∷ ys) rising (inl same) =
        let tied : (number y == number x) ≡ true = eq-eqb (number y) (number x) (ap number same) in
        rw tied (ap Some same)
    numbered_has x (y ∷ ys) rising (inr there) =
        let above : number y < number x = numbered_above (number y) x ys rising.0 there in
        rw (ne_eqb (number y) (number x) (λ e. omega (arith, e, above))) (numbered_has x ys rising.1 there)
