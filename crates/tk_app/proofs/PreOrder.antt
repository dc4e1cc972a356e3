-- In the order of the windows each stands behind its parent; so do the shapes that a layout makes of them.
use Rattle.std.proofs.Common.{◌≡◌, ◌≢◌, ℕ, zero, suc, ◌<◌, Bool, true, false, cond, List, [], ◌∷◌, ◌++◌, MatchOption, Option, Some, None, refl, sym, ap, ◌∙◌, subst, arith}
use Rattle.std.specs.Prelude.{◌==◌, codes, option_and_then, slice_get}
use Rattle.std.specs.List.{cons_option, filter_map}
use Rattle.std.specs.Option.{option_map_or}
use Rattle.std.proofs.lemmas.Bool.{eq-eqb, eqb-true, ne_eqb}
use Rattle.tcl_vars.specs.Store.{Store}
use Rattle.tk_base.specs.Numbered.{AllAbove, IsRising, numbered}
use Rattle.tk_packer.specs.declared.shape.Shape.{Shape}
use Rattle.tk_screen.specs.Own.{Windowing}
use Rattle.tk_screen.specs.Reading.{AreApart, IsOfNone}
use Rattle.tk_screen.specs.Shapes.{pre_order, shape_at, shapes}
use Rattle.tk_screen.specs.Widgets.{widget_at}
use Rattle.tk_screen.proofs.Apart.{Above, Absent, above_from, above_in, above_itself, above_more, absent_above, absent_both, child_is, older, one_parent}
use Rattle.tk_screen.proofs.Twice.{none_absent, read_by}
use Rattle.tk_tree.specs.declared.window.Window.{Window}
use Rattle.tk_tree.specs.Orders.{below, subtree}
use Rattle.tk_tree.specs.Own.{HaveOlderParents, IsSound, Tree, at_path, is_child_of, window_at}
use Rattle.tk_tree.specs.Window.{number_of}
use Rattle.tk_tree.proofs.Lists.{some_same}
use Rattle.tk_app.specs.InOrder.{parent_of}

-- the parent of the window with a number among these
abbrev pub parent_in : ℕ → List Window → Option ℕ
parent_in n windows = option_and_then (λ (window : Window). window.parent) (numbered number_of n windows)

-- no window stands before its parent
abbrev pub AreBehind : List Window → List ℕ → Type 0
AreBehind whole [] = Unit {0}
AreBehind whole (n ∷ ns) = ((p : ℕ) → parent_in n whole ≡ Some p → Absent p (n ∷ ns)) × AreBehind whole ns

-- parents of these are none of those
abbrev HaveNone : List Window → List ℕ → List ℕ → Type 0
HaveNone whole [] ys = Unit {0}
HaveNone whole (n ∷ ns) ys = ((p : ℕ) → parent_in n whole ≡ Some p → Absent p ys) × HaveNone whole ns ys

none_after : (whole : List Window) (ns : List ℕ) (y : ℕ) (ys : List ℕ) → HaveNone whole ns (y ∷ ys) → HaveNone whole ns ys
none_after whole [] y ys none = tt
none_after whole (n ∷ ns) y ys none = ((λ p is. (none.0 p is).1), none_after whole ns y ys none.1)

none_both : (whole : List Window) (ns ms ys : List ℕ) → HaveNone whole ns ys → HaveNone whole ms ys → HaveNone whole (ns ++ ms) ys
none_both whole [] ms ys one other = other
none_both whole (n ∷ ns) ms ys one other = (one.0, none_both whole ns ms ys one.1 other)

-- none of two lists, one behind the other
none_of_both : (whole : List Window) (ns : List ℕ) (m k : ℕ) (xs ys : List ℕ) → HaveNone whole ns (m ∷ ys) → HaveNone whole ns (k ∷ xs) → HaveNone whole ns (m ∷ k ∷ xs ++ ys)
none_of_both whole [] m k xs ys one other = tt
none_of_both whole (n ∷ ns) m k xs ys one other = (
  (λ p is. (let here = one.0 p is in let there = other.0 p is in (here.0, (there.0, absent_both p xs ys there.1 here.1)))),
  none_of_both whole ns m k xs ys one.1 other.1,
)

behind_both : (whole : List Window) (xs ys : List ℕ) → AreBehind whole xs → AreBehind whole ys → HaveNone whole xs ys → AreBehind whole (xs ++ ys)
behind_both whole [] ys one other none = other
behind_both whole (x ∷ xs) ys one other none =
    ((λ p is. (let here = one.0 p is in (here.0, absent_both p xs ys here.1 (none.0 p is)))), behind_both whole xs ys one.1 other none.1)

-- ── one window more in front ──

module _ (window : Window) (windows : List Window) where
  parent_rest : (n : ℕ) → window.number < n → parent_in n (window ∷ windows) ≡ parent_in n windows
  parent_rest n lt = rw (ne_eqb window.number n (λ same. omega (arith, lt, same))) refl

  behind_more : (ns : List ℕ) → Above window.number ns → AreBehind windows ns → AreBehind (window ∷ windows) ns
  behind_more [] above behind = tt
  behind_more (n ∷ ns) above behind = ((λ p is. behind.0 p (sym (parent_rest n above.0) ∙ is)), behind_more ns above.1 behind.1)

  none_more : (ns ys : List ℕ) → Above window.number ns → HaveNone windows ns ys → HaveNone (window ∷ windows) ns ys
  none_more [] ys above none = tt
  none_more (n ∷ ns) ys above none = ((λ p is. none.0 p (sym (parent_rest n above.0) ∙ is)), none_more ns ys above.1 none.1)

  -- the first one's own parent
  parent_first : (p k : ℕ) → is_child_of k window ≡ true → parent_in window.number (window ∷ windows) ≡ Some p → k ≡ p
  parent_first p k child is = some_same k p (sym (child_is k window child) ∙ (rw (eq-eqb window.number window.number refl) at is))

-- parents of what is below one window are neither another nor below it
none_shared : (k m : ℕ) (windows : List Window) → IsRising number_of windows → k ≢ m → AllAbove number_of k windows → AllAbove number_of m windows
    → HaveNone windows (below k windows) (m ∷ below m windows)
unfolding below
none_shared k m [] rising differ one other = tt
none_shared k m (window ∷ windows) rising differ one other =
    by (is_child_of k window) (is_child_of m window) refl refl
    (none_more window windows (below k windows) (m ∷ below m windows) (above_in window.number k windows rising.0) (none_shared k m windows rising.1 differ one.1 other.1))
    (none_more window windows (below window.number windows) (m ∷ below m windows) (above_in window.number window.number windows rising.0)
    (none_shared window.number m windows rising.1 (λ same. omega (arith, same, other.0)) rising.0 other.1))
    (none_more window windows (below k windows) (window.number ∷ below window.number windows) (above_in window.number k windows rising.0)
    (none_shared k window.number windows rising.1 (λ same. omega (arith, same, one.0)) one.1 rising.0))
  where
    first : is_child_of k window ≡ true → (p : ℕ) → parent_in window.number (window ∷ windows) ≡ Some p → Absent p (m ∷ below m windows)
    first child p is =
        subst (λ q. Absent q (m ∷ below m windows)) (parent_first window windows p k child is)
        ((λ same. differ (sym same)), absent_above k (below m windows) (above_in k m windows one.1))

    by : (a b : Bool) → is_child_of k window ≡ a → is_child_of m window ≡ b
        → HaveNone (window ∷ windows) (below k windows) (m ∷ below m windows)
        → HaveNone (window ∷ windows) (below window.number windows) (m ∷ below m windows)
        → HaveNone (window ∷ windows) (below k windows) (window.number ∷ below window.number windows)
        → HaveNone (window ∷ windows) (cond a (window.number ∷ below window.number windows ++ below k windows) (below k windows)) (m ∷ cond b (window.number ∷ below window.number windows ++ below m windows) (below m windows))
    by true true is its both left right = absurd (differ (one_parent k m window is its))
    by true false is its both left right = (first is, none_both (window ∷ windows) (below window.number windows) (below k windows) (m ∷ below m windows) left both)
    by false true is its both left right = none_of_both (window ∷ windows) (below k windows) m window.number (below window.number windows) (below m windows) both right
    by false false is its both left right = both

below_behind : (k : ℕ) (windows : List Window) → IsRising number_of windows → HaveOlderParents windows → AreBehind windows (below k windows)
unfolding below
below_behind k [] rising parents = tt
below_behind k (window ∷ windows) rising parents =
    by (is_child_of k window) refl
    (above_itself k (window ∷ windows) rising parents)
    (behind_more window windows (below window.number windows) (above_in window.number window.number windows rising.0) (below_behind window.number windows rising.1 parents.1))
    (behind_more window windows (below k windows) (above_in window.number k windows rising.0) (below_behind k windows rising.1 parents.1))
  where
    apart : k < window.number → HaveNone (window ∷ windows) (below window.number windows) (below k windows)
    apart lt =
        none_after (window ∷ windows) (below window.number windows) k (below k windows)
        (none_more window windows (below window.number windows) (k ∷ below k windows) (above_in window.number window.number windows rising.0)
        (none_shared window.number k windows rising.1 (λ same. omega (arith, same, lt)) rising.0 (above_more k window.number windows lt rising.0)))

    by : (b : Bool) → is_child_of k window ≡ b → Above k (cond b (window.number ∷ below window.number windows ++ below k windows) (below k windows))
        → AreBehind (window ∷ windows) (below window.number windows) → AreBehind (window ∷ windows) (below k windows)
        → AreBehind (window ∷ windows) (cond b (window.number ∷ below window.number windows ++ below k windows) (below k windows))
    by true is above own others = (
      (λ p its. subst (λ q. Absent q (window.number ∷ below window.number windows ++ below k windows)) (parent_first window windows p k is its)
          (absent_above k (window.number ∷ below window.number windows ++ below k windows) above)),
      behind_both (window ∷ windows) (below window.number windows) (below k windows) own others (apart (older k window parents.0 is)),
    )
    by false is above own others = others

-- a parent was made before
parent_older : (n p : ℕ) (windows : List Window) → HaveOlderParents windows → parent_in n windows ≡ Some p → p < n
parent_older n p [] parents is = absurd (cc)
parent_older n p (window ∷ windows) parents is = by (window.number == n) refl (parent_older n p windows parents.1)
  where
    by : (b : Bool) → (window.number == n) ≡ b → (parent_in n windows ≡ Some p → p < n) → p < n
    by true same later =
        subst (λ k. p < k) (eqb-true window.number n same)
        (subst (λ (o : Option ℕ). MatchOption o (Unit {0}) (λ q. q < window.number)) (rw same at is) parents.0)
    by false differs later = later (rw differs at is)

pub pre_order_behind : (own : Tree) → IsSound own → AreBehind own.windows (pre_order own)
unfolding pre_order
pre_order_behind own sound = by (at_path (codes ".") own)
  where
    by : (main : Option Window) → AreBehind own.windows (option_map_or (λ main. subtree main.number own) main [])
    by None = tt
    by (Some main) = (
      (λ p is.
          (let lt : p < main.number = parent_older main.number p own.windows sound.parents is in
          absent_above p (subtree main.number own) (lt, above_from p main.number (below main.number own.windows) lt (above_itself main.number own.windows sound.rising sound.parents)))),
      below_behind main.number own.windows sound.rising sound.parents,
    )

-- ── shapes ──

-- no shape stands before that of its window's parent
abbrev pub ShapesBehind : Tree → List Shape → Type 0
ShapesBehind tree [] = Unit {0}
ShapesBehind tree (shape ∷ rest) = ((p : ℕ) → parent_of shape.number tree ≡ Some p → IsOfNone p (shape ∷ rest)) × ShapesBehind tree rest

module _ (own : Windowing) (store : Store) where
  all_behind : (ns : List ℕ) → AreBehind own.tree.windows ns → ShapesBehind own.tree (filter_map (shape_at own store) ns)
  unfolding IsOfNone
  all_behind [] behind = tt
  all_behind (n ∷ ns) behind = by (shape_at own store n) refl (all_behind ns behind.1)
    where
      by : (o : Option Shape) → shape_at own store n ≡ o → ShapesBehind own.tree (filter_map (shape_at own store) ns)
          → ShapesBehind own.tree (cons_option o (filter_map (shape_at own store) ns))
      by None is rest = rest
      by (Some shape) is rest =
          let same : shape.number ≡ n = (read_by own store n (window_at n own.tree) (widget_at n own.widgets) refl shape is).0 in (
            (λ p its.
                (let absent = behind.0 p (ap (λ m. parent_of m own.tree) (sym same) ∙ its) in
                ((λ here. absent.0 (sym same ∙ here)), none_absent own store p ns absent.1))),
            rest,
          )

  pub shapes_behind : IsSound own.tree → ShapesBehind own.tree (shapes own store)
  unfolding shapes
  shapes_behind sound = all_behind (pre_order own.tree) (pre_order_behind own.tree sound)

-- ── by their places ──

none_at : (n : ℕ) (all : List Shape) → IsOfNone n all → (i : ℕ) (shape : Shape) → slice_get all i ≡ Some shape → shape.number ≢ n
unfolding IsOfNone
none_at n [] none i shape is = absurd (cc)
none_at n (s ∷ all) none zero shape is = subst (λ (x : Shape). x.number ≢ n) (some_same s shape is) none.0
none_at n (s ∷ all) none (suc i) shape is = none_at n all none.1 i shape is

pub place_behind : (tree : Tree) (all : List Shape) → ShapesBehind tree all → (i j : ℕ) (master slave : Shape) → slice_get all i ≡ Some master → slice_get all j ≡ Some slave
    → parent_of slave.number tree ≡ Some master.number → i < j
place_behind tree [] behind i j master slave at_i at_j is = absurd (cc)
place_behind tree (s ∷ all) behind i zero master slave at_i at_j is =
    absurd
    (none_at master.number (s ∷ all) (behind.0 master.number (ap (λ (x : Shape). parent_of x.number tree) (some_same s slave at_j) ∙ is)) i master at_i refl)
place_behind tree (s ∷ all) behind zero (suc j) master slave at_i at_j is = omega arith
place_behind tree (s ∷ all) behind (suc i) (suc j) master slave at_i at_j is =
    (let lt = place_behind tree all behind.1 i j master slave at_i at_j is in omega (arith, lt))

pub shape_place : (all : List Shape) → AreApart all → (i j : ℕ) (one other : Shape) → slice_get all i ≡ Some one → slice_get all j ≡ Some other → one.number ≡ other.number → i ≡ j
unfolding AreApart
shape_place [] apart i j one other at_i at_j same = absurd (cc)
shape_place (s ∷ all) apart zero zero one other at_i at_j same = refl
shape_place (s ∷ all) apart zero (suc j) one other at_i at_j same =
    absurd (none_at s.number all apart.0 j other at_j (sym same ∙ sym (ap (λ (x : Shape). x.number) (some_same s one at_i))))
shape_place (s ∷ all) apart (suc i) zero one other at_i at_j same =
    absurd (none_at s.number all apart.0 i one at_i (same ∙ sym (ap (λ (x : Shape). x.number) (some_same s other at_j))))
shape_place (s ∷ all) apart (suc i) (suc j) one other at_i at_j same = ap suc (shape_place all apart.1 i j one other at_i at_j same)
