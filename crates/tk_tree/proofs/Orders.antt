-- What is below a window is its children, each with what is below it.
use Rattle.std.proofs.Common.{◌≡◌, ℕ, ◌<◌, ◌≤◌, ◌+◌, Bool, true, false, List, [], ◌∷◌, ◌++◌, length, MatchOption, Option, Some, None, refl, sym, ap, ◌∙◌, subst, arith, append_assoc, append-nil}
use Rattle.std.specs.Prelude.{reverse}
use Rattle.std.proofs.lemmas.Bool.{ne_eqb}
use Rattle.std.proofs.lemmas.List.{reverse-append, reverse-reverse}
use Rattle.tk_base.specs.Numbered.{AllAbove, IsRising}
use Rattle.tk_tree.specs.declared.window.Window.{Window}
use Rattle.tk_tree.specs.Orders.{below, below_first}
use Rattle.tk_tree.specs.Walks.{all_below, all_below_first}
use Rattle.tk_tree.specs.Own.{HasOlderParent, HaveOlderParents, is_child_of, child_numbers}
use Rattle.tk_tree.specs.Window.{number_of}

-- none of these is below a number
abbrev NoneBelow : ℕ → List ℕ → Type 0
NoneBelow least [] = Unit {0}
NoneBelow least (number ∷ numbers) = (least ≤ number) × NoneBelow least numbers

-- a window isn't the child of one that is no older
pub not_child : (window : Window) (number : ℕ) → HasOlderParent window → window.number ≤ number → is_child_of number window ≡ false
not_child window number older le = by window.parent refl older
  where
    by : (parent : Option ℕ) → window.parent ≡ parent → MatchOption window.parent (Unit {0}) (λ p. p < window.number) → is_child_of number window ≡ false
    by None is its = rw is refl
    by (Some p) is its =
        let lt : p < window.number = subst (λ q. MatchOption q (Unit {0}) (λ r. r < window.number)) is its in
        rw is (ne_eqb p number (λ e. omega (arith, e, lt, le)))

children_from : (number least : ℕ) (windows : List Window) → AllAbove number_of least windows → NoneBelow least (child_numbers number windows)
children_from number least [] above = tt
children_from number least (window ∷ windows) above = by (is_child_of number window) refl (children_from number least windows above.1)
  where
    by : (b : Bool) → is_child_of number window ≡ b → NoneBelow least (child_numbers number windows) → NoneBelow least (child_numbers number (window ∷ windows))
    by true is rest = rw is (omega (arith, above.0), rest)
    by false is rest = rw is rest

-- ── a window is before its children ──
skip_below : (window : Window) (windows : List Window) (number : ℕ) → HasOlderParent window → window.number ≤ number → below number (window ∷ windows) ≡ below number windows
unfolding below
skip_below window windows number older le = rw (not_child window number older le) refl

skip_all : (window : Window) (windows : List Window) (numbers : List ℕ) → HasOlderParent window → NoneBelow window.number numbers → all_below numbers (window ∷ windows) ≡ all_below numbers windows
unfolding all_below
skip_all window windows [] older none = refl
skip_all window windows (number ∷ numbers) older none =
    ap (λ zs. number ∷ zs ++ all_below numbers (window ∷ windows)) (skip_below window windows number older none.0)
    ∙ ap (λ zs. number ∷ below number windows ++ zs) (skip_all window windows numbers older none.1)

pub below_children : (number : ℕ) (windows : List Window) → HaveOlderParents windows → IsRising number_of windows → below number windows ≡ all_below (child_numbers number windows) windows
unfolding below all_below
below_children number [] older rising = refl
below_children number (window ∷ windows) older rising =
    by (is_child_of number window) refl (below_children number windows older.1 rising.1) (skip_all window windows (child_numbers number windows) older.0 (children_from number window.number windows rising.0)) (skip_below window windows window.number older.0 (omega arith))
  where
    by : (b : Bool) → is_child_of number window ≡ b → below number windows ≡ all_below (child_numbers number windows) windows
        → all_below (child_numbers number windows) (window ∷ windows) ≡ all_below (child_numbers number windows) windows
        → below window.number (window ∷ windows) ≡ below window.number windows
        → below number (window ∷ windows) ≡ all_below (child_numbers number (window ∷ windows)) (window ∷ windows)
    by true is rest skip own = rw is (ap (λ zs. window.number ∷ below window.number windows ++ zs) (rest ∙ sym skip) ∙ sym (ap (λ zs. window.number ∷ zs ++ all_below (child_numbers number windows) (window ∷ windows)) own))
    by false is rest skip own = rw is (rest ∙ sym skip)

pub all_below-append : (windows : List Window) (xs ys : List ℕ) → all_below (xs ++ ys) windows ≡ all_below xs windows ++ all_below ys windows
unfolding all_below
all_below-append windows [] ys = refl
all_below-append windows (x ∷ xs) ys =
    ap (λ zs. x ∷ below x windows ++ zs) (all_below-append windows xs ys) ∙ ap (λ zs. x ∷ zs) (sym (append_assoc (below x windows) (all_below xs windows) (all_below ys windows)))

-- one that waits is visited, and its children wait in its place
pub visited : (order rest : List ℕ) (number : ℕ) (children : List ℕ) (windows : List Window) → below number windows ≡ all_below children windows
    → (order ++ number ∷ []) ++ all_below (reverse (rest ++ reverse children)) windows ≡ order ++ all_below (reverse (rest ++ number ∷ [])) windows
unfolding all_below
visited order rest number children windows is =
    append_assoc order (number ∷ []) (all_below (reverse (rest ++ reverse children)) windows)
    ∙ ap (λ zs. order ++ number ∷ all_below zs windows) (reverse-append rest (reverse children) ∙ ap (λ zs. zs ++ reverse rest) (reverse-reverse children))
    ∙ ap (λ zs. order ++ number ∷ zs) (all_below-append windows children (reverse rest) ∙ ap (λ zs. zs ++ all_below (reverse rest) windows) (sym is))
    ∙ sym (ap (λ zs. order ++ all_below zs windows) (reverse-append rest (number ∷ [])))

-- fewer are left
pub fewer : (rest : List ℕ) (number : ℕ) (children : List ℕ) (windows : List Window) → below number windows ≡ all_below children windows
    → length (all_below (reverse (rest ++ reverse children)) windows) < length (all_below (reverse (rest ++ number ∷ [])) windows)
fewer rest number children windows is =
    let e = ap length (visited [] rest number children windows is) in
    omega (arith, e)

-- ── a window is behind its children ──
skip_first : (window : Window) (windows : List Window) (number : ℕ) → HasOlderParent window → window.number ≤ number → below_first number (window ∷ windows) ≡ below_first number windows
unfolding below_first
skip_first window windows number older le = rw (not_child window number older le) refl

skip_all_first : (window : Window) (windows : List Window) (numbers : List ℕ) → HasOlderParent window → NoneBelow window.number numbers → all_below_first numbers (window ∷ windows) ≡ all_below_first numbers windows
unfolding all_below_first
skip_all_first window windows [] older none = refl
skip_all_first window windows (number ∷ numbers) older none =
    ap (λ zs. (zs ++ number ∷ []) ++ all_below_first numbers (window ∷ windows)) (skip_first window windows number older none.0)
    ∙ ap (λ zs. (below_first number windows ++ number ∷ []) ++ zs) (skip_all_first window windows numbers older none.1)

pub first_children : (number : ℕ) (windows : List Window) → HaveOlderParents windows → IsRising number_of windows → below_first number windows ≡ all_below_first (child_numbers number windows) windows
unfolding below_first all_below_first
first_children number [] older rising = refl
first_children number (window ∷ windows) older rising =
    by (is_child_of number window) refl (first_children number windows older.1 rising.1) (skip_all_first window windows (child_numbers number windows) older.0 (children_from number window.number windows rising.0)) (skip_first window windows window.number older.0 (omega arith))
  where
    by : (b : Bool) → is_child_of number window ≡ b → below_first number windows ≡ all_below_first (child_numbers number windows) windows
        → all_below_first (child_numbers number windows) (window ∷ windows) ≡ all_below_first (child_numbers number windows) windows
        → below_first window.number (window ∷ windows) ≡ below_first window.number windows
        → below_first number (window ∷ windows) ≡ all_below_first (child_numbers number (window ∷ windows)) (window ∷ windows)
    by true is rest skip own =
        rw is
        (ap (λ zs. below_first window.number windows ++ window.number ∷ zs) (rest ∙ sym skip)
        ∙ sym (append_assoc (below_first window.number windows) (window.number ∷ []) (all_below_first (child_numbers number windows) (window ∷ windows)))
        ∙ sym (ap (λ zs. (zs ++ window.number ∷ []) ++ all_below_first (child_numbers number windows) (window ∷ windows)) own))
    by false is rest skip own = rw is (rest ∙ sym skip)

pub all_first-append : (windows : List Window) (xs ys : List ℕ) → all_below_first (xs ++ ys) windows ≡ all_below_first xs windows ++ all_below_first ys windows
unfolding all_below_first
all_first-append windows [] ys = refl
all_first-append windows (x ∷ xs) ys =
    ap (λ zs. (below_first x windows ++ x ∷ []) ++ zs) (all_first-append windows xs ys) ∙ sym (append_assoc (below_first x windows ++ x ∷ []) (all_below_first xs windows) (all_below_first ys windows))

-- the last that waits is put before those that are behind it, and its children wait in its place
pub put_before : (order rest : List ℕ) (number : ℕ) (children : List ℕ) (windows : List Window) → below_first number windows ≡ all_below_first children windows
    → all_below_first (rest ++ children) windows ++ reverse (order ++ number ∷ []) ≡ all_below_first (rest ++ number ∷ []) windows ++ reverse order
unfolding all_below_first
put_before order rest number children windows is =
    ap (λ zs. all_below_first (rest ++ children) windows ++ zs) (reverse-append order (number ∷ []))
    ∙ ap (λ zs. zs ++ number ∷ reverse order) (all_first-append windows rest children ∙ ap (λ zs. all_below_first rest windows ++ zs) (sym is))
    ∙ append_assoc (all_below_first rest windows) (below_first number windows) (number ∷ reverse order)
    ∙ ap (λ zs. all_below_first rest windows ++ zs) (sym (append_assoc (below_first number windows) (number ∷ []) (reverse order)))
    ∙ sym (append_assoc (all_below_first rest windows) (below_first number windows ++ number ∷ []) (reverse order))
    ∙ ap (λ zs. zs ++ reverse order) (ap (λ zs. all_below_first rest windows ++ zs) (sym (append-nil (below_first number windows ++ number ∷ []))) ∙ sym (all_first-append windows rest (number ∷ [])))

pub fewer_first : (rest : List ℕ) (number : ℕ) (children : List ℕ) (windows : List Window) → below_first number windows ≡ all_below_first children windows
    → length (all_below_first (rest ++ children) windows) < length (all_below_first (rest ++ number ∷ []) windows)
fewer_first rest number children windows is =
    let e = ap length (put_before [] rest number children windows is) in
    let left = length_end (all_below_first (rest ++ children) windows) number in
    let right = ap length (append-nil (all_below_first (rest ++ number ∷ []) windows)) in
    omega (arith, e, left, right)
  where
    length_end : (xs : List ℕ) (n : ℕ) → length (xs ++ n ∷ []) ≡ length xs + 1
    length_end [] n = refl
    length_end (x ∷ xs) n = omega (arith, length_end xs n)

-- ── the steps of the two walks, as their calls say them ──
module _ (number : ℕ) (windows : List Window) (children : List ℕ) (children_are : children ≡ child_numbers number windows) where
  children_behind : below number windows ≡ all_below (child_numbers number windows) windows → below number windows ≡ all_below children windows
  children_behind is = is ∙ ap (λ cs. all_below cs windows) (sym children_are)

  children_before : below_first number windows ≡ all_below_first (child_numbers number windows) windows → below_first number windows ≡ all_below_first children windows
  children_before is = is ∙ ap (λ cs. all_below_first cs windows) (sym children_are)

  pub step_down : (order later waiting rest left whole : List ℕ) → below number windows ≡ all_below (child_numbers number windows) windows
      → later ≡ order ++ number ∷ [] → waiting ≡ rest ++ number ∷ [] → left ≡ rest ++ reverse children
      → order ++ all_below (reverse waiting) windows ≡ whole → later ++ all_below (reverse left) windows ≡ whole
  step_down order later waiting rest left whole is later_is waiting_is left_is so_far =
      ap (λ zs. zs ++ all_below (reverse left) windows) later_is ∙ ap (λ zs. (order ++ number ∷ []) ++ all_below (reverse zs) windows) left_is
      ∙ visited order rest number children windows (children_behind is) ∙ sym (ap (λ zs. order ++ all_below (reverse zs) windows) waiting_is) ∙ so_far

  pub less_down : (waiting rest left : List ℕ) → below number windows ≡ all_below (child_numbers number windows) windows
      → waiting ≡ rest ++ number ∷ [] → left ≡ rest ++ reverse children
      → length (all_below (reverse left) windows) < length (all_below (reverse waiting) windows)
  less_down waiting rest left is waiting_is left_is = rw (waiting_is, left_is) (fewer rest number children windows (children_behind is))

  pub step_up : (order later waiting rest left whole : List ℕ) → below_first number windows ≡ all_below_first (child_numbers number windows) windows
      → later ≡ order ++ number ∷ [] → waiting ≡ rest ++ number ∷ [] → left ≡ rest ++ children
      → all_below_first waiting windows ++ reverse order ≡ whole → all_below_first left windows ++ reverse later ≡ whole
  step_up order later waiting rest left whole is later_is waiting_is left_is so_far =
      ap (λ zs. all_below_first zs windows ++ reverse later) left_is ∙ ap (λ zs. all_below_first (rest ++ children) windows ++ reverse zs) later_is
      ∙ put_before order rest number children windows (children_before is) ∙ sym (ap (λ zs. all_below_first zs windows ++ reverse order) waiting_is) ∙ so_far

  pub less_up : (waiting rest left : List ℕ) → below_first number windows ≡ all_below_first (child_numbers number windows) windows
      → waiting ≡ rest ++ number ∷ [] → left ≡ rest ++ children
      → length (all_below_first left windows) < length (all_below_first waiting windows)
  less_up waiting rest left is waiting_is left_is = rw (waiting_is, left_is) (fewer_first rest number children windows (children_before is))

pub begin_down : (number : ℕ) (windows : List Window) (order waiting before : List ℕ) → order ≡ [] → before ≡ [] → waiting ≡ before ++ number ∷ []
    → order ++ all_below (reverse waiting) windows ≡ number ∷ below number windows
unfolding all_below
begin_down number windows order waiting before none nothing is = rw (none, is, nothing) (ap (λ zs. number ∷ zs) (append-nil (below number windows)))

pub begin_up : (number : ℕ) (windows : List Window) (order waiting before : List ℕ) → order ≡ [] → before ≡ [] → waiting ≡ before ++ number ∷ []
    → all_below_first waiting windows ++ reverse order ≡ below_first number windows ++ number ∷ []
unfolding all_below_first
begin_up number windows order waiting before none nothing is =
    rw (none, is, nothing) (append-nil ((below_first number windows ++ number ∷ []) ++ []) ∙ append-nil (below_first number windows ++ number ∷ []))

pub end_down : (windows : List Window) (order waiting rest whole : List ℕ) → waiting ≡ rest ++ [] → length rest ≡ 0 → order ++ all_below (reverse waiting) windows ≡ whole → order ≡ whole
unfolding all_below
end_down windows order waiting [] whole is none so_far = sym (append-nil order) ∙ sym (ap (λ zs. order ++ all_below (reverse zs) windows) is) ∙ so_far
end_down windows order waiting (x ∷ rest) whole is none so_far = absurd (omega arith)

pub end_up : (windows : List Window) (order waiting rest whole : List ℕ) → waiting ≡ rest ++ [] → length rest ≡ 0 → all_below_first waiting windows ++ reverse order ≡ whole → reverse order ≡ whole
unfolding all_below_first
end_up windows order waiting [] whole is none so_far = sym (ap (λ zs. all_below_first zs windows ++ reverse order) is) ∙ so_far
end_up windows order waiting (x ∷ rest) whole is none so_far = absurd (omega arith)
