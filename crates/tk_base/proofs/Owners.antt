-- What becomes of the owners' lists where an item comes into the bag, anywhere, changes there, or leaves it.
use Rattle.std.proofs.Common.{◌≡◌, ◌≢◌, ℕ, Bool, true, false, List, [], ◌∷◌, ◌++◌, Some, None, refl, sym, ap, ◌∙◌, subst}
use Rattle.std.specs.Prelude.{◌==◌, find, nat_le}
use Rattle.std.proofs.Common.{append-nil}
use Rattle.std.proofs.lemmas.Bool.{eqb-true, eq-eqb, ne_eqb}
use Rattle.tk_base.specs.Bag.{Item, values_of, NonePasses, insert_in, in_order, listed}
use Rattle.tk_base.specs.Numbered.{numbered, without, changed_at, AllBelow, IsRising}
use Rattle.tk_base.proofs.Orders.{Stands, stands, found_there, gone_there, changed_there, nothing_behind}

module _ {X : Type 0} where
  abbrev pub item : ℕ → X → Item X
  item owner y = record { owner = owner; value = y }

  append_by : (owner : ℕ) (x : Item X) (a b : List (Item X)) (t : Bool) → (x.owner == owner) ≡ t → values_of owner (a ++ b) ≡ values_of owner a ++ values_of owner b → values_of owner (x ∷ a ++ b) ≡ values_of owner (x ∷ a) ++ values_of owner b
  append_by owner x a b true is h = rw is (ap (λ zs. x.value ∷ zs) h)
  append_by owner x a b false is h = rw is h

  pub values_of-append : (owner : ℕ) (a b : List (Item X)) → values_of owner (a ++ b) ≡ values_of owner a ++ values_of owner b
  values_of-append owner [] b = refl
  values_of-append owner (x ∷ a) b = append_by owner x a b (x.owner == owner) refl (values_of-append owner a b)

  mine : (owner : ℕ) (y : X) (b : List (Item X)) → values_of owner (item owner y ∷ b) ≡ y ∷ values_of owner b
  mine owner y b = rw (eq-eqb owner owner refl) refl

  anothers : (owner other : ℕ) (y : X) (b : List (Item X)) → other ≢ owner → values_of other (item owner y ∷ b) ≡ values_of other b
  anothers owner other y b differ = rw (ne_eqb owner other (λ e. differ (sym e))) refl

  values_with : (owner : ℕ) (y : X) (a b : List (Item X)) → values_of owner (a ++ item owner y ∷ b) ≡ values_of owner a ++ y ∷ values_of owner b
  values_with owner y a b = values_of-append owner a (item owner y ∷ b) ∙ ap (λ zs. values_of owner a ++ zs) (mine owner y b)

  values_other : (owner other : ℕ) (y : X) (a b : List (Item X)) → other ≢ owner → values_of other (a ++ item owner y ∷ b) ≡ values_of other (a ++ b)
  values_other owner other y a b differ =
      values_of-append other a (item owner y ∷ b) ∙ ap (λ zs. values_of other a ++ zs) (anothers owner other y b differ) ∙ sym (values_of-append other a b)

  module _ (number : X → ℕ) where
    -- an item stands at one place of its owner's list
    pub own_stands : (owner n : ℕ) (a b : List (Item X)) → Stands number n (listed number owner (a ++ b)) (λ y. listed number owner (a ++ item owner y ∷ b))
    own_stands owner n a b =
        let s = stands number n (values_of owner a) (values_of owner b) in
        record {
          front = s.front;
          back = s.back;
          low = s.low;
          high = s.high;
          rest_is = ap (in_order number) (values_of-append owner a b) ∙ s.rest_is;
          whole_is = λ y same. ap (in_order number) (values_with owner y a b) ∙ s.whole_is y same;
        }

    pub listed_other : (owner other : ℕ) (y : X) (a b : List (Item X)) → other ≢ owner → listed number other (a ++ item owner y ∷ b) ≡ listed number other (a ++ b)
    listed_other owner other y a b differ = ap (in_order number) (values_other owner other y a b differ)

    pub listed_new : (owner : ℕ) (y : X) (a b : List (Item X)) → AllBelow number (number y) (listed number owner (a ++ b)) → listed number owner (a ++ item owner y ∷ b) ≡ listed number owner (a ++ b) ++ y ∷ []
    listed_new owner y a b below =
        let s = own_stands owner (number y) a b in
        let last : s.back ≡ [] = nothing_behind number (number y) s.front s.back (subst (AllBelow number (number y)) s.rest_is below) s.high in
        s.whole_is y refl ∙ ap (λ zs. s.front ++ y ∷ zs) last ∙ ap (λ zs. zs ++ y ∷ []) (sym (s.rest_is ∙ ap (λ zs. s.front ++ zs) last ∙ append-nil s.front))

    pub listed_gone : (owner : ℕ) (y : X) (a b : List (Item X)) → IsRising number (listed number owner (a ++ item owner y ∷ b)) → listed number owner (a ++ b) ≡ without number (number y) (listed number owner (a ++ item owner y ∷ b))
    listed_gone owner y a b rising =
        let s = own_stands owner (number y) a b in
        let whole = s.whole_is y refl in
        s.rest_is ∙ sym (gone_there number s.front y s.back (subst (IsRising number) whole rising)) ∙ ap (without number (number y)) (sym whole)

    pub listed_changed : (owner : ℕ) (y : X) (change : X → X) (a b : List (Item X)) → number (change y) ≡ number y → IsRising number (listed number owner (a ++ item owner y ∷ b))
        → listed number owner (a ++ item owner (change y) ∷ b) ≡ changed_at number (number y) change (listed number owner (a ++ item owner y ∷ b))
    listed_changed owner y change a b same rising =
        let s = own_stands owner (number y) a b in
        let whole = s.whole_is y refl in
        s.whole_is (change y) same ∙ sym (changed_there number change s.front y s.back (subst (IsRising number) whole rising)) ∙ ap (changed_at number (number y) change) (sym whole)

    pub listed_found : (owner : ℕ) (y : X) (a b : List (Item X)) → IsRising number (listed number owner (a ++ item owner y ∷ b)) → numbered number (number y) (listed number owner (a ++ item owner y ∷ b)) ≡ Some y
    listed_found owner y a b rising =
        let s = own_stands owner (number y) a b in
        let whole = s.whole_is y refl in
        ap (numbered number (number y)) whole ∙ found_there number s.front y s.back (subst (IsRising number) whole rising)

    -- ── what no value passes ──
    insert_none_by : (test : X → Bool) (x y : X) (ys : List X) (b : Bool) → nat_le (number x) (number y) ≡ b → test x ≡ false → find test (y ∷ ys) ≡ None → (find test ys ≡ None → find test (insert_in number x ys) ≡ None)
        → (t : Bool) → test y ≡ t → find test (insert_in number x (y ∷ ys)) ≡ None
    insert_none_by test x y ys true is fails none h t ty = rw (is, fails) none
    insert_none_by test x y ys false is fails none h true ty = absurd (cc (rw ty at none))
    insert_none_by test x y ys false is fails none h false ty = rw (is, ty) (h (rw ty at none))

    rest_none_by : (test : X → Bool) (y : X) (ys : List X) (t : Bool) → test y ≡ t → find test (y ∷ ys) ≡ None → find test ys ≡ None
    rest_none_by test y ys true ty none = absurd (cc (rw ty at none))
    rest_none_by test y ys false ty none = rw ty at none

    insert_none : (test : X → Bool) (x : X) (ys : List X) → test x ≡ false → find test ys ≡ None → find test (insert_in number x ys) ≡ None
    insert_none test x [] fails none = rw fails refl
    insert_none test x (y ∷ ys) fails none = insert_none_by test x y ys (nat_le (number x) (number y)) refl fails none (λ rest. insert_none test x ys fails rest) (test y) refl

    none_by : (owner : ℕ) (test : X → Bool) (x : Item X) (xs : List (Item X)) (b : Bool) → (x.owner == owner) ≡ b → (x.owner ≡ owner → test x.value ≡ false) → find test (listed number owner xs) ≡ None → find test (listed number owner (x ∷ xs)) ≡ None
    none_by owner test x xs true is fails h = rw is (insert_none test x.value (listed number owner xs) (fails (eqb-true x.owner owner is)) h)
    none_by owner test x xs false is fails h = rw is h

    pub listed_none : (owner : ℕ) (test : X → Bool) (bag : List (Item X)) → NonePasses owner test bag → find test (listed number owner bag) ≡ None
    listed_none owner test [] none = refl
    listed_none owner test (x ∷ bag) none = none_by owner test x bag (x.owner == owner) refl none.0 (listed_none owner test bag none.1)
