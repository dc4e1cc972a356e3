-- The numbers of the children in a list of windows.
use Rattle.std.proofs.Common.{◌≡◌, ◌≢◌, ℕ, ◌<◌, Bool, true, false, List, [], ◌∷◌, ◌++◌, MatchOption, Option, Some, None, refl, sym, ap, ◌∙◌, subst, arith, append-nil}
use Rattle.std.specs.Prelude.{◌==◌, not, filter}
use Rattle.std.proofs.lemmas.Bool.{ne_eqb, eq-eqb}
use Rattle.tk_base.specs.Numbered.{AllBelow, AllAbove, IsRising}
use Rattle.tk_tree.specs.declared.window.Window.{Window}
use Rattle.tk_tree.specs.Index.{added_child, left_children}
use Rattle.tk_tree.specs.Own.{HasOlderParent, HaveOlderParents, is_child_of, child_numbers}
use Rattle.tk_tree.specs.Window.{number_of}

-- no window has this number
abbrev pub Differ : ℕ → List Window → Type 0
Differ m [] = Unit {0}
Differ m (w ∷ ws) = (w.number ≢ m) × Differ m ws

pub differ_above : (m : ℕ) (ws : List Window) → AllAbove number_of m ws → Differ m ws
differ_above m [] above = tt
differ_above m (w ∷ ws) above = ((λ e. omega (arith, e, above.0)), differ_above m ws above.1)

pub differ_below : (m : ℕ) (ws : List Window) → AllBelow number_of m ws → Differ m ws
differ_below m [] below = tt
differ_below m (w ∷ ws) below = ((λ e. omega (arith, e, below.0)), differ_below m ws below.1)

above_at : (n : ℕ) (front : List Window) (w : Window) (back : List Window) → AllAbove number_of n (front ++ w ∷ back) → n < w.number
above_at n [] w back above = above.0
above_at n (v ∷ front) w back above = above_at n front w back above.1

pub differ_front : (front : List Window) (w : Window) (back : List Window) → IsRising number_of (front ++ w ∷ back) → Differ w.number front
differ_front [] w back rising = tt
differ_front (v ∷ front) w back rising = ((λ e. omega (arith, e, above_at v.number front w back rising.0)), differ_front front w back rising.1)

pub differ_back : (front : List Window) (w : Window) (back : List Window) → IsRising number_of (front ++ w ∷ back) → Differ w.number back
differ_back [] w back rising = differ_above w.number back rising.0
differ_back (v ∷ front) w back rising = differ_back front w back rising.1

module _ (n : ℕ) where
  append_by : (w : Window) (xs ys : List Window) (b : Bool) → is_child_of n w ≡ b → child_numbers n (xs ++ ys) ≡ child_numbers n xs ++ child_numbers n ys → child_numbers n (w ∷ xs ++ ys) ≡ child_numbers n (w ∷ xs) ++ child_numbers n ys
  append_by w xs ys true is h = rw is (ap (λ l. w.number ∷ l) h)
  append_by w xs ys false is h = rw is h

  pub children-append : (xs ys : List Window) → child_numbers n (xs ++ ys) ≡ child_numbers n xs ++ child_numbers n ys
  children-append [] ys = refl
  children-append (w ∷ xs) ys = append_by w xs ys (is_child_of n w) refl (children-append xs ys)

  one_some : (w : Window) (p : ℕ) (b : Bool) → (p == n) ≡ b → w.parent ≡ Some p → child_numbers n (w ∷ []) ≡ added_child (Some p) w.number n
  one_some w p true same is = rw (is, same) refl
  one_some w p false differs is = rw (is, differs) refl

  pub one_child : (w : Window) → child_numbers n (w ∷ []) ≡ added_child w.parent w.number n
  one_child w = by w.parent refl
    where
      by : (parent : Option ℕ) → w.parent ≡ parent → child_numbers n (w ∷ []) ≡ added_child w.parent w.number n
      by None is = rw is refl
      by (Some p) is = one_some w p (p == n) refl is ∙ sym (ap (λ q. added_child q w.number n) is)

  -- with a window among them
  pub children_with : (front : List Window) (w : Window) (back : List Window) → child_numbers n (front ++ w ∷ back) ≡ child_numbers n front ++ (added_child w.parent w.number n ++ child_numbers n back)
  children_with front w back = children-append front (w ∷ back) ∙ ap (λ l. child_numbers n front ++ l) (children-append (w ∷ []) back ∙ ap (λ l. l ++ child_numbers n back) (one_child w))

  pub children_swap : (front : List Window) (w v : Window) (back : List Window) → v.parent ≡ w.parent → v.number ≡ w.number → child_numbers n (front ++ v ∷ back) ≡ child_numbers n (front ++ w ∷ back)
  children_swap front w v back same_parent same_number =
      children_with front v back
      ∙ ap (λ p. child_numbers n front ++ (added_child p v.number n ++ child_numbers n back)) same_parent
      ∙ ap (λ m. child_numbers n front ++ (added_child w.parent m n ++ child_numbers n back)) same_number
      ∙ sym (children_with front w back)

  keep_by : (m : ℕ) (w : Window) (ws : List Window) (b : Bool) → is_child_of n w ≡ b → w.number ≢ m → filter (λ c. not (c == m)) (child_numbers n ws) ≡ child_numbers n ws → filter (λ c. not (c == m)) (child_numbers n (w ∷ ws)) ≡ child_numbers n (w ∷ ws)
  keep_by m w ws true is differ h = rw (is, ne_eqb w.number m differ) (ap (λ l. w.number ∷ l) h)
  keep_by m w ws false is differ h = rw is h

  -- a number that no window has is no child's
  pub kept_children : (m : ℕ) (ws : List Window) → Differ m ws → filter (λ c. not (c == m)) (child_numbers n ws) ≡ child_numbers n ws
  kept_children m [] differ = refl
  kept_children m (w ∷ ws) differ = keep_by m w ws (is_child_of n w) refl differ.0 (kept_children m ws differ.1)

  filter_two : (m : ℕ) (a b : List ℕ) → filter (λ c. not (c == m)) (a ++ b) ≡ filter (λ c. not (c == m)) a ++ filter (λ c. not (c == m)) b
  filter_two m [] b = refl
  filter_two m (x ∷ a) b = by (x == m) refl (filter_two m a b)
    where
      by : (t : Bool) → (x == m) ≡ t → filter (λ c. not (c == m)) (a ++ b) ≡ filter (λ c. not (c == m)) a ++ filter (λ c. not (c == m)) b → filter (λ c. not (c == m)) (x ∷ a ++ b) ≡ filter (λ c. not (c == m)) (x ∷ a) ++ filter (λ c. not (c == m)) b
      by true is h = rw is h
      by false is h = rw is (ap (λ l. x ∷ l) h)

  less_some : (m p : ℕ) (front back : List Window) (b : Bool) → (p == n) ≡ b → Differ m front → Differ m back
      → left_children (Some p) m n (child_numbers n front ++ (added_child (Some p) m n ++ child_numbers n back)) ≡ child_numbers n front ++ child_numbers n back
  less_some m p front back true is df db =
      rw is
      (filter_two m (child_numbers n front) (m ∷ child_numbers n back)
      ∙ ap (λ l. l ++ filter (λ c. not (c == m)) (m ∷ child_numbers n back)) (kept_children m front df)
      ∙ ap (λ l. child_numbers n front ++ l) (rw (eq-eqb m m refl) (kept_children m back db)))
  less_some m p front back false is df db = rw is refl

  -- a child that goes, of those with its number once
  pub children_less : (parent : Option ℕ) (m : ℕ) (front back : List Window) → Differ m front → Differ m back
      → left_children parent m n (child_numbers n front ++ (added_child parent m n ++ child_numbers n back)) ≡ child_numbers n front ++ child_numbers n back
  children_less None m front back df db = refl
  children_less (Some p) m front back df db = less_some m p front back (p == n) refl df db

  -- a child that comes, and goes again
  pub left_new : (parent : Option ℕ) (m : ℕ) (ws : List Window) → Differ m ws → left_children parent m n (child_numbers n ws ++ added_child parent m n) ≡ child_numbers n ws
  left_new parent m ws differ =
      ap (λ l. left_children parent m n (child_numbers n ws ++ l)) (sym (append-nil (added_child parent m n))) ∙ children_less parent m ws [] differ tt ∙ append-nil (child_numbers n ws)

  none_by : (w : Window) (p : ℕ) (ws : List Window) → w.parent ≡ Some p → p < n → child_numbers n ws ≡ [] → child_numbers n (w ∷ ws) ≡ []
  none_by w p ws is lt none = rw (is, ne_eqb p n (λ e. omega (arith, e, lt))) none

  older_than : (v : Window) (p : ℕ) → v.parent ≡ Some p → HasOlderParent v → p < v.number
  older_than v p is its = subst (λ q. MatchOption q (Unit {0}) (λ r. r < v.number)) is its

  -- the next number is no window's parent
  pub no_children : (ws : List Window) → HaveOlderParents ws → AllBelow number_of n ws → child_numbers n ws ≡ []
  no_children [] older below = refl
  no_children (w ∷ ws) older below = by w.parent refl older.0 (no_children ws older.1 below.1)
    where
      by : (parent : Option ℕ) → w.parent ≡ parent → HasOlderParent w → child_numbers n ws ≡ [] → child_numbers n (w ∷ ws) ≡ []
      by None is its none = rw is none
      by (Some p) is its none = none_by w p ws is (omega (arith, older_than w p is its, below.0)) none

  nothing_left : (a m b : List ℕ) → a ++ (m ++ b) ≡ [] → a ++ b ≡ []
  nothing_left [] [] b none = none
  nothing_left [] (x ∷ m) b none = absurd (cc)
  nothing_left (x ∷ a) m b none = absurd (cc)

  -- what has no children has none with a window less
  pub still_none : (front : List Window) (w : Window) (back : List Window) → child_numbers n (front ++ w ∷ back) ≡ [] → child_numbers n (front ++ back) ≡ []
  still_none front w back none =
      children-append front back ∙ nothing_left (child_numbers n front) (added_child w.parent w.number n) (child_numbers n back) (sym (children_with front w back) ∙ none)
