-- Steps. The index: the arena's key at an application and a number, and the number at an application and a path.
use Rattle.std.specs.Prelude.{◌≡◌, ◌≢◌, ℕ, List, [], ◌∷◌, ◌++◌, ◌==◌, not, filter, Option, None, Some, nat_eq, option_and_then, if◌then◌else◌}
use Rattle.std.specs.Option.{option_map_or}
use Rattle.std.specs.HashMap.{get, get_by_text}
use Rattle.tk_base.specs.Numbered.{IsRising}
use Rattle.tk_tree.specs.declared.index.PathRow.{PathRow}
use Rattle.tk_tree.specs.declared.index.PathIndex.{PathIndex}

-- ── one application's part ──
abbrev pub row_key : PathRow → ℕ → Option ℕ
row_key row number = get nat_eq row.keys number

abbrev pub row_number : PathRow → List ℕ → Option ℕ
row_number row path = get_by_text row.numbers path

-- the numbers of the children of the window with a number
abbrev pub row_children : PathRow → ℕ → List ℕ
row_children row number = option_map_or (λ list. list.items) (get nat_eq row.children number) []

-- each number is above the one before it
abbrev pub AreRising : List ℕ → Type 0
AreRising numbers = IsRising (λ n. n) numbers

-- what a new child adds to the children of each number
abbrev pub added_child : Option ℕ → ℕ → ℕ → List ℕ
added_child parent child number = option_map_or (λ p. if p == number then child ∷ [] else []) parent []

-- what a child that goes leaves of the children of each number
abbrev pub left_children : Option ℕ → ℕ → ℕ → List ℕ → List ℕ
left_children parent child number list = option_map_or (λ p. if p == number then filter (λ c. not (c == child)) list else list) parent list

pub record IsEmptyRow (row : PathRow) : Type 0 where
  pub keys : (n : ℕ) → row_key row n ≡ None
  pub numbers : (p : List ℕ) → row_number row p ≡ None
  pub children : (n : ℕ) → row_children row n ≡ []

pub record SameRow (old new : PathRow) : Type 0 where
  pub keys : (n : ℕ) → row_key new n ≡ row_key old n
  pub numbers : (p : List ℕ) → row_number new p ≡ row_number old p
  pub children : (n : ℕ) → row_children new n ≡ row_children old n

-- the new row has a window more, which is nobody's child
pub record RowNames (old new : PathRow) (path : List ℕ) (number key : ℕ) : Type 0 where
  pub key_is : row_key new number ≡ Some key
  pub number_is : row_number new path ≡ Some number
  pub keys : (n : ℕ) → n ≢ number → row_key new n ≡ row_key old n
  pub numbers : (p : List ℕ) → p ≢ path → row_number new p ≡ row_number old p
  pub children : (n : ℕ) → row_children new n ≡ row_children old n

-- the new row lacks the window, and has the same children
pub record RowForgets (old new : PathRow) (path : List ℕ) (number : ℕ) : Type 0 where
  pub key_is : row_key new number ≡ None
  pub number_is : row_number new path ≡ None
  pub keys : (n : ℕ) → n ≢ number → row_key new n ≡ row_key old n
  pub numbers : (p : List ℕ) → p ≢ path → row_number new p ≡ row_number old p
  pub children : (n : ℕ) → row_children new n ≡ row_children old n

-- the new row has a child more
pub record RowChild (old new : PathRow) (number : ℕ) (parent : Option ℕ) : Type 0 where
  pub keys : (n : ℕ) → row_key new n ≡ row_key old n
  pub numbers : (p : List ℕ) → row_number new p ≡ row_number old p
  pub children : (n : ℕ) → row_children new n ≡ row_children old n ++ added_child parent number n

-- the new row has a child less, and the child no children
pub record RowChildless (old new : PathRow) (number : ℕ) (parent : Option ℕ) : Type 0 where
  pub keys : (n : ℕ) → row_key new n ≡ row_key old n
  pub numbers : (p : List ℕ) → row_number new p ≡ row_number old p
  pub none_below : row_children new number ≡ []
  pub children : (n : ℕ) → n ≢ number → row_children new n ≡ left_children parent number n (row_children old n)

-- the new row has a window more
pub record RowAdds (old new : PathRow) (path : List ℕ) (number key : ℕ) (parent : Option ℕ) : Type 0 where
  pub key_is : row_key new number ≡ Some key
  pub number_is : row_number new path ≡ Some number
  pub keys : (n : ℕ) → n ≢ number → row_key new n ≡ row_key old n
  pub numbers : (p : List ℕ) → p ≢ path → row_number new p ≡ row_number old p
  pub children : (n : ℕ) → row_children new n ≡ row_children old n ++ added_child parent number n

-- the new row lacks the window
pub record RowRemoves (old new : PathRow) (path : List ℕ) (number : ℕ) (parent : Option ℕ) : Type 0 where
  pub key_is : row_key new number ≡ None
  pub number_is : row_number new path ≡ None
  pub none_below : row_children new number ≡ []
  pub keys : (n : ℕ) → n ≢ number → row_key new n ≡ row_key old n
  pub numbers : (p : List ℕ) → p ≢ path → row_number new p ≡ row_number old p
  pub children : (n : ℕ) → n ≢ number → row_children new n ≡ left_children parent number n (row_children old n)

-- ── all applications' ──
abbrev pub key_at : PathIndex → ℕ → ℕ → Option ℕ
key_at index owner number = option_and_then (λ row. row_key row number) (get nat_eq index.rows owner)

abbrev pub number_at : PathIndex → ℕ → List ℕ → Option ℕ
number_at index owner path = option_and_then (λ row. row_number row path) (get nat_eq index.rows owner)

abbrev pub children_at : PathIndex → ℕ → ℕ → List ℕ
children_at index owner number = option_map_or (λ row. row_children row number) (get nat_eq index.rows owner) []

pub record IsEmptyIndex (index : PathIndex) : Type 0 where
  pub keys : (o n : ℕ) → key_at index o n ≡ None
  pub numbers : (o : ℕ) (p : List ℕ) → number_at index o p ≡ None
  pub children : (o n : ℕ) → children_at index o n ≡ []

pub record SameIndex (old new : PathIndex) : Type 0 where
  pub keys : (o n : ℕ) → key_at new o n ≡ key_at old o n
  pub numbers : (o : ℕ) (p : List ℕ) → number_at new o p ≡ number_at old o p
  pub children : (o n : ℕ) → children_at new o n ≡ children_at old o n

-- the new index has a window more
pub record Adds (old new : PathIndex) (owner : ℕ) (path : List ℕ) (number key : ℕ) (parent : Option ℕ) : Type 0 where
  pub key_is : key_at new owner number ≡ Some key
  pub number_is : number_at new owner path ≡ Some number
  pub keys : (o n : ℕ) → (o ≡ owner → n ≢ number) → key_at new o n ≡ key_at old o n
  pub numbers : (o : ℕ) (p : List ℕ) → (o ≡ owner → p ≢ path) → number_at new o p ≡ number_at old o p
  pub children : (n : ℕ) → children_at new owner n ≡ children_at old owner n ++ added_child parent number n
  pub other_children : (o n : ℕ) → o ≢ owner → children_at new o n ≡ children_at old o n

-- the new index lacks the window
pub record Removes (old new : PathIndex) (owner : ℕ) (path : List ℕ) (number : ℕ) (parent : Option ℕ) : Type 0 where
  pub key_is : key_at new owner number ≡ None
  pub number_is : number_at new owner path ≡ None
  pub keys : (o n : ℕ) → (o ≡ owner → n ≢ number) → key_at new o n ≡ key_at old o n
  pub numbers : (o : ℕ) (p : List ℕ) → (o ≡ owner → p ≢ path) → number_at new o p ≡ number_at old o p
  pub none_below : children_at new owner number ≡ []
  pub children : (n : ℕ) → n ≢ number → children_at new owner n ≡ left_children parent number n (children_at old owner n)
  pub other_children : (o n : ℕ) → o ≢ owner → children_at new o n ≡ children_at old o n
