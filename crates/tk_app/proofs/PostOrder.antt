-- In the post-order of a window and all below it each stands behind its children.
use Rattle.std.proofs.Common.{◌≡◌, ◌⊎◌, inl, inr, ℕ, ◌<◌, Bool, true, false, cond, List, [], ◌∷◌, ◌++◌, Option, Some, None, MatchOption, refl, sym, ap, ◌∙◌, subst, arith, append_assoc}
use Rattle.std.specs.Prelude.{◌==◌}
use Rattle.std.specs.Option.{option_map_or}
use Rattle.std.proofs.lemmas.Bool.{eqb-true, eq-eqb}
use Rattle.tk_base.specs.Numbered.{AllAbove, IsRising}
use Rattle.tk_tree.specs.declared.window.Window.{Window}
use Rattle.tk_tree.specs.Orders.{below_first}
use Rattle.tk_tree.specs.Own.{HasOlderParent, HaveOlderParents, is_child_of}
use Rattle.tk_tree.specs.Window.{number_of}

abbrev pub Among : ℕ → List ℕ → Type 0
Among n [] = ⊥
Among n (m ∷ ms) = (n ≡ m) ⊎ Among n ms

abbrev pub Member : Window → List Window → Type 0
Member x [] = ⊥
Member x (window ∷ windows) = (x ≡ window) ⊎ Member x windows

-- numbers put before others, one after another
abbrev pub pushed : List ℕ → List ℕ → List ℕ
pushed [] done = done
pushed (n ∷ ns) done = pushed ns (n ∷ done)

member_both : (x : Window) (front back : List Window) → Member x (front ++ back) → Member x front ⊎ Member x back
member_both x [] back is = inr is
member_both x (window ∷ front) back (inl here) = inl (inl here)
member_both x (window ∷ front) back (inr there) = by (member_both x front back there)
  where
    by : Member x front ⊎ Member x back → Member x (window ∷ front) ⊎ Member x back
    by (inl one) = inl (inr one)
    by (inr other) = inr other

-- the parent of a window
pub is_child : (n : ℕ) (window : Window) → is_child_of n window ≡ true → window.parent ≡ Some n
is_child n window is = by window.parent refl
  where
    by : (parent : Option ℕ) → window.parent ≡ parent → window.parent ≡ Some n
    by None none = absurd (cc (rw none at is))
    by (Some p) some = some ∙ ap (λ k. Some k) (eqb-true p n (rw some at is))

pub no_child : (n : ℕ) (window : Window) → is_child_of n window ≡ false → window.parent ≡ Some n → ⊥
no_child n window is parent = absurd (cc (sym is ∙ ap (λ (o : Option ℕ). option_map_or (λ p. p == n) o false) parent ∙ eq-eqb n n refl))

above_member : (n : ℕ) (x : Window) (windows : List Window) → AllAbove number_of n windows → Member x windows → n < x.number
above_member n x [] above is = absurd is
above_member n x (window ∷ windows) above (inl same) = subst (λ (w : Window). n < w.number) (sym same) above.0
above_member n x (window ∷ windows) above (inr there) = above_member n x windows above.1 there

member_end : (x : Window) (front back : List Window) → Member x (front ++ x ∷ back)
member_end x [] back = inl refl
member_end x (window ∷ front) back = inr (member_end x front back)

-- what stands before a window has a lower number
front_below : (x window : Window) (front back : List Window) → IsRising number_of (front ++ window ∷ back) → Member x front → x.number < window.number
front_below x window [] back rising is = absurd is
front_below x window (first ∷ front) back rising (inl same) =
    subst (λ (w : Window). w.number < window.number) (sym same) (above_member first.number window (front ++ window ∷ back) rising.0 (member_end window front back))
front_below x window (first ∷ front) back rising (inr there) = front_below x window front back rising.1 there

older_member : (x : Window) (windows : List Window) → HaveOlderParents windows → Member x windows → HasOlderParent x
older_member x [] older is = absurd is
older_member x (window ∷ windows) older (inl same) = subst HasOlderParent (sym same) older.0
older_member x (window ∷ windows) older (inr there) = older_member x windows older.1 there

child_above : (n : ℕ) (x : Window) → HasOlderParent x → x.parent ≡ Some n → n < x.number
child_above n x older is = subst (λ (o : Option ℕ). MatchOption o (Unit {0}) (λ p. p < x.number)) is older

module _ (whole : List Window) (rising : IsRising number_of whole) (older : HaveOlderParents whole) where
  -- each has its children among those done by then
  abbrev pub Ordered : List ℕ → List ℕ → Type 0
  Ordered done [] = Unit {0}
  Ordered done (n ∷ ns) = ((x : Window) → Member x whole → x.parent ≡ Some n → Among x.number done) × Ordered (n ∷ done) ns

  ordered_both : (ns ms done : List ℕ) → Ordered done ns → Ordered (pushed ns done) ms → Ordered done (ns ++ ms)
  ordered_both [] ms done one other = other
  ordered_both (n ∷ ns) ms done one other = (one.0, ordered_both ns ms (n ∷ done) one.1 other)

  among_pushed : (n : ℕ) (ns done : List ℕ) → Among n done → Among n (pushed ns done)
  among_pushed n [] done is = is
  among_pushed n (m ∷ ns) done is = among_pushed n ns (m ∷ done) (inr is)

  pushed_both : (ns ms done : List ℕ) → pushed (ns ++ ms) done ≡ pushed ms (pushed ns done)
  pushed_both [] ms done = refl
  pushed_both (n ∷ ns) ms done = pushed_both ns ms (n ∷ done)

  abbrev HasDone : ℕ → List Window → List ℕ → Type 0
  HasDone n windows done = (x : Window) → Member x windows → x.parent ≡ Some n → Among x.number done

  record Walked (n : ℕ) (list done : List ℕ) : Type 0 where
    ordered : Ordered done list
    children : HasDone n whole (pushed list done)

  -- a window that is done with is one more in front
  more_done : (n : ℕ) (window : Window) (front : List Window) (done : List ℕ) → HasDone n front done → (window.parent ≡ Some n → Among window.number done) → HasDone n (front ++ window ∷ []) done
  more_done n window front done has it x is parent = by (member_both x front (window ∷ []) is)
    where
      by : Member x front ⊎ Member x (window ∷ []) → Among x.number done
      by (inl one) = has x one parent
      by (inr (inl same)) = subst (λ (w : Window). Among w.number done) (sym same) (it (ap (λ (w : Window). w.parent) (sym same) ∙ parent))
      by (inr (inr none)) = absurd none

  -- no window that stands before it, nor it itself, is its child
  none_before : (window : Window) (front back : List Window) (done : List ℕ) → whole ≡ front ++ window ∷ back → HasDone window.number (front ++ window ∷ []) done
  none_before window front back done is x member parent = by (member_both x front (window ∷ []) member)
    where
      old : Member x whole → window.number < x.number
      old there = child_above window.number x (older_member x whole older there) parent

      below : Member x front → x.number < window.number
      below one = front_below x window front back (subst (IsRising number_of) is rising) one

      front_in : (windows : List Window) → Member x windows → Member x (windows ++ window ∷ back)
      front_in [] one = absurd one
      front_in (w ∷ windows) (inl same) = inl same
      front_in (w ∷ windows) (inr there) = inr (front_in windows there)

      by : Member x front ⊎ Member x (window ∷ []) → Among x.number done
      by (inl one) = absurd (omega (arith, below one, old (subst (Member x) (sym is) (front_in front one))))
      by (inr (inl same)) =
          let up : window.number < x.number = old (subst (Member x) (sym is) (subst (λ (w : Window). Member w (front ++ window ∷ back)) (sym same) (member_end window front back))) in
          absurd (omega (arith, up, ap (λ (w : Window). w.number) same))
      by (inr (inr none)) = absurd none

  moved : (window : Window) (front back : List Window) → whole ≡ front ++ window ∷ back → whole ≡ (front ++ window ∷ []) ++ back
  moved window front back is = is ∙ sym (append_assoc front (window ∷ []) back)

  walk : (back front : List Window) (n : ℕ) (done : List ℕ) → whole ≡ front ++ back → HasDone n front done → Walked n (below_first n back) done
  unfolding below_first
  walk [] front n done is has =
      record { ordered = tt; children = λ x member parent. has x (by x (member_both x front [] (subst (Member x) is member))) parent }
    where
      by : (x : Window) → Member x front ⊎ Member x [] → Member x front
      by x (inl one) = one
      by x (inr none) = absurd none
  walk (window ∷ back) front n done is has =
      let here = moved window front back is in
      let below = walk back (front ++ window ∷ []) window.number done here (none_before window front back done is) in
      let after : List ℕ = window.number ∷ pushed (below_first window.number back) done in
      by (is_child_of n window) refl below
      (λ has_more. walk back (front ++ window ∷ []) n after here has_more)
      (λ has_more. walk back (front ++ window ∷ []) n done here has_more)
    where
      by : (b : Bool) → is_child_of n window ≡ b → Walked window.number (below_first window.number back) done
          → (HasDone n (front ++ window ∷ []) (window.number ∷ pushed (below_first window.number back) done) → Walked n (below_first n back) (window.number ∷ pushed (below_first window.number back) done))
          → (HasDone n (front ++ window ∷ []) done → Walked n (below_first n back) done)
          → Walked n (cond b (below_first window.number back ++ window.number ∷ below_first n back) (below_first n back)) done
      by true child below rest other =
          let first : List ℕ = below_first window.number back in
          let last = rest (more_done n window front (window.number ∷ pushed first done) (λ x member parent. inr (among_pushed x.number first done (has x member parent))) (λ parent. inl refl)) in
          record {
            ordered = ordered_both first (window.number ∷ below_first n back) done below.ordered (below.children, last.ordered);
            children = λ x member parent. subst (Among x.number) (sym (pushed_both first (window.number ∷ below_first n back) done)) (last.children x member parent);
          }
      by false child below rest other = other (more_done n window front done has (λ parent. absurd (no_child n window child parent)))

  pub post_ordered : (n : ℕ) → Ordered [] (below_first n whole ++ n ∷ [])
  post_ordered n =
      let walked = walk whole [] n [] refl (λ x member parent. absurd member) in ordered_both (below_first n whole) (n ∷ []) [] walked.ordered (walked.children, tt)
