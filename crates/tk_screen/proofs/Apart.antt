-- No window stands twice in the order of the windows.
use Rattle.std.proofs.Common.{◌≡◌, ◌≢◌, ℕ, ◌<◌, Bool, true, false, cond, List, [], ◌∷◌, ◌++◌, MatchOption, Option, Some, None, refl, sym, ap, ◌∙◌, subst, arith}
use Rattle.std.proofs.lemmas.Bool.{eqb-true}
use Rattle.tk_base.specs.Numbered.{AllAbove, IsRising}
use Rattle.tk_tree.specs.declared.window.Window.{Window}
use Rattle.tk_tree.specs.Orders.{below, subtree}
use Rattle.tk_tree.specs.Own.{HasOlderParent, HaveOlderParents, IsSound, Tree, is_child_of}
use Rattle.tk_tree.specs.Window.{number_of}

-- none of the numbers is this one
abbrev pub Absent : ℕ → List ℕ → Type 0
Absent n [] = Unit {0}
Absent n (m ∷ ms) = (m ≢ n) × Absent n ms

-- no number stands twice
abbrev pub Once : List ℕ → Type 0
Once [] = Unit {0}
Once (n ∷ ns) = Absent n ns × Once ns

-- the lists have no number in common
abbrev Disjoint : List ℕ → List ℕ → Type 0
Disjoint [] ys = Unit {0}
Disjoint (x ∷ xs) ys = Absent x ys × Disjoint xs ys

-- each number is above this one
abbrev pub Above : ℕ → List ℕ → Type 0
Above n [] = Unit {0}
Above n (m ∷ ms) = (n < m) × Above n ms

pub absent_above : (n : ℕ) (ms : List ℕ) → Above n ms → Absent n ms
absent_above n [] above = tt
absent_above n (m ∷ ms) above = ((λ same. omega (arith, same, above.0)), absent_above n ms above.1)

pub above_from : (n m : ℕ) (ms : List ℕ) → n < m → Above m ms → Above n ms
above_from n m [] lt above = tt
above_from n m (k ∷ ms) lt above = (omega (arith, lt, above.0), above_from n m ms lt above.1)

above_both : (n : ℕ) (xs ys : List ℕ) → Above n xs → Above n ys → Above n (xs ++ ys)
above_both n [] ys one other = other
above_both n (x ∷ xs) ys one other = (one.0, above_both n xs ys one.1 other)

pub absent_both : (n : ℕ) (xs ys : List ℕ) → Absent n xs → Absent n ys → Absent n (xs ++ ys)
absent_both n [] ys one other = other
absent_both n (x ∷ xs) ys one other = (one.0, absent_both n xs ys one.1 other)

disjoint_left : (xs ys zs : List ℕ) → Disjoint xs zs → Disjoint ys zs → Disjoint (xs ++ ys) zs
disjoint_left [] ys zs one other = other
disjoint_left (x ∷ xs) ys zs one other = (one.0, disjoint_left xs ys zs one.1 other)

disjoint_right : (xs ys zs : List ℕ) → Disjoint xs ys → Disjoint xs zs → Disjoint xs (ys ++ zs)
disjoint_right [] ys zs one other = tt
disjoint_right (x ∷ xs) ys zs one other = (absent_both x ys zs one.0 other.0, disjoint_right xs ys zs one.1 other.1)

disjoint_more : (xs : List ℕ) (y : ℕ) (ys : List ℕ) → Absent y xs → Disjoint xs ys → Disjoint xs (y ∷ ys)
disjoint_more [] y ys absent apart = tt
disjoint_more (x ∷ xs) y ys absent apart = (((λ same. absent.0 (sym same)), apart.0), disjoint_more xs y ys absent.1 apart.1)

once_both : (xs ys : List ℕ) → Once xs → Once ys → Disjoint xs ys → Once (xs ++ ys)
once_both [] ys one other apart = other
once_both (x ∷ xs) ys one other apart = (absent_both x xs ys one.0 apart.0, once_both xs ys one.1 other apart.1)

-- ── a child ──

pub child_is : (number : ℕ) (window : Window) → is_child_of number window ≡ true → window.parent ≡ Some number
child_is number window is = by window.parent refl
  where
    by : (parent : Option ℕ) → window.parent ≡ parent → window.parent ≡ Some number
    by None its = absurd (cc (rw its at is))
    by (Some p) its = its ∙ ap Some (eqb-true p number (rw its at is))

pub older : (number : ℕ) (window : Window) → HasOlderParent window → is_child_of number window ≡ true → number < window.number
older number window its is = subst (λ parent. MatchOption parent (Unit {0}) (λ p. p < window.number)) (child_is number window is) its

pub one_parent : (a b : ℕ) (window : Window) → is_child_of a window ≡ true → is_child_of b window ≡ true → a ≡ b
one_parent a b window is its = let same : Some a ≡ Some b = sym (child_is a window is) ∙ child_is b window its in cc

-- ── what is below a window ──

pub above_in : (n number : ℕ) (windows : List Window) → AllAbove number_of n windows → Above n (below number windows)
unfolding below
above_in n number [] above = tt
above_in n number (window ∷ windows) above = by (is_child_of number window) (above_in n window.number windows above.1) (above_in n number windows above.1)
  where
    by : (b : Bool) → Above n (below window.number windows) → Above n (below number windows)
        → Above n (cond b (window.number ∷ below window.number windows ++ below number windows) (below number windows))
    by true own others = (above.0, above_both n (below window.number windows) (below number windows) own others)
    by false own others = others

-- each is above the window
pub above_itself : (number : ℕ) (windows : List Window) → IsRising number_of windows → HaveOlderParents windows → Above number (below number windows)
unfolding below
above_itself number [] rising parents = tt
above_itself number (window ∷ windows) rising parents = by (is_child_of number window) refl (above_itself number windows rising.1 parents.1)
  where
    by : (b : Bool) → is_child_of number window ≡ b → Above number (below number windows)
        → Above number (cond b (window.number ∷ below window.number windows ++ below number windows) (below number windows))
    by true is others =
        let lt : number < window.number = older number window parents.0 is in
        (lt, above_both number (below window.number windows) (below number windows) (above_from number window.number (below window.number windows) lt (above_in window.number window.number windows rising.0)) others)
    by false is others = others

-- what is below one and what is below another, both older than all of these
apart_below : (a b : ℕ) (windows : List Window) → IsRising number_of windows → a ≢ b → AllAbove number_of a windows → AllAbove number_of b windows → Disjoint (below a windows) (below b windows)
unfolding below
apart_below a b [] rising differ one other = tt
apart_below a b (window ∷ windows) rising differ one other =
    by (is_child_of a window) (is_child_of b window) refl refl
    (apart_below a b windows rising.1 differ one.1 other.1)
    (apart_below window.number b windows rising.1 (λ same. omega (arith, same, other.0)) rising.0 other.1)
    (apart_below a window.number windows rising.1 (λ same. omega (arith, same, one.0)) one.1 rising.0)
  where
    by : (p q : Bool) → is_child_of a window ≡ p → is_child_of b window ≡ q
        → Disjoint (below a windows) (below b windows) → Disjoint (below window.number windows) (below b windows) → Disjoint (below a windows) (below window.number windows)
        → Disjoint (cond p (window.number ∷ below window.number windows ++ below a windows) (below a windows)) (cond q (window.number ∷ below window.number windows ++ below b windows) (below b windows))
    by true true is its both left right = absurd (differ (one_parent a b window is its))
    by true false is its both left right =
        (absent_above window.number (below b windows) (above_in window.number b windows rising.0), disjoint_left (below window.number windows) (below a windows) (below b windows) left both)
    by false true is its both left right =
        disjoint_more (below a windows) window.number (below window.number windows ++ below b windows)
        (absent_above window.number (below a windows) (above_in window.number a windows rising.0))
        (disjoint_right (below a windows) (below window.number windows) (below b windows) right both)
    by false false is its both left right = both

pub above_more : (n m : ℕ) (windows : List Window) → n < m → AllAbove number_of m windows → AllAbove number_of n windows
above_more n m [] lt above = tt
above_more n m (window ∷ windows) lt above = (omega (arith, lt, above.0), above_more n m windows lt above.1)

once_below : (number : ℕ) (windows : List Window) → IsRising number_of windows → HaveOlderParents windows → Once (below number windows)
unfolding below
once_below number [] rising parents = tt
once_below number (window ∷ windows) rising parents =
    by (is_child_of number window) refl (once_below window.number windows rising.1 parents.1) (once_below number windows rising.1 parents.1)
  where
    by : (b : Bool) → is_child_of number window ≡ b → Once (below window.number windows) → Once (below number windows)
        → Once (cond b (window.number ∷ below window.number windows ++ below number windows) (below number windows))
    by true is own others =
        let lt : number < window.number = older number window parents.0 is in (
          absent_both window.number (below window.number windows) (below number windows)
              (absent_above window.number (below window.number windows) (above_in window.number window.number windows rising.0))
              (absent_above window.number (below number windows) (above_in window.number number windows rising.0)),
          once_both (below window.number windows) (below number windows) own others
              (apart_below window.number number windows rising.1 (λ same. omega (arith, same, lt)) rising.0 (above_more number window.number windows lt rising.0)),
        )
    by false is own others = others

-- a window and those below it
pub once_under : (number : ℕ) (own : Tree) → IsSound own → Once (subtree number own)
once_under number own sound =
    (absent_above number (below number own.windows) (above_itself number own.windows sound.rising sound.parents), once_below number own.windows sound.rising sound.parents)
