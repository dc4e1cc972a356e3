-- Steps. A bag of items, each with an owner and a value that has a number, and what one owner has in it, in the order of numbers: what one
-- application has in a table that all share.
use Rattle.std.specs.Prelude.{◌≡◌, ℕ, Bool, false, List, [], ◌∷◌, ◌==◌, nat_le, if◌then◌else◌}

pub record Item (X : Type 0) : Type 0 where
  pub owner : ℕ
  pub value : X

module _ {X : Type 0} where
  -- the values of an owner, as they stand in the bag
  abbrev pub values_of : ℕ → List (Item X) → List X
  values_of owner [] = []
  values_of owner (x ∷ xs) = if x.owner == owner then x.value ∷ values_of owner xs else values_of owner xs

  -- no value of the owner passes the test
  abbrev pub NonePasses : ℕ → (X → Bool) → List (Item X) → Type 0
  NonePasses owner test [] = Unit {0}
  NonePasses owner test (x ∷ xs) = (x.owner ≡ owner → test x.value ≡ false) × NonePasses owner test xs

  module _ (number : X → ℕ) where
    -- a value among others, before those whose numbers are not below its own
    abbrev pub insert_in : X → List X → List X
    insert_in x [] = x ∷ []
    insert_in x (y ∷ ys) = if nat_le (number x) (number y) then x ∷ y ∷ ys else y ∷ insert_in x ys

    -- the values in the order of their numbers
    abbrev pub in_order : List X → List X
    in_order [] = []
    in_order (x ∷ xs) = insert_in x (in_order xs)

    -- what an owner has in the bag, in the order of numbers
    abbrev pub listed : ℕ → List (Item X) → List X
    listed owner bag = in_order (values_of owner bag)
