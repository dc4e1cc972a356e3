-- The stages, by what each part does by itself.
use Rattle.std.proofs.Common.{◌≡◌, ◌-◌, ◌≤◌, ◌<◌, ◌++◌, ◌⊎◌, inl, inr, min, ℕ, zero, suc, Bool, true, false, List, [], ◌∷◌, map, Option, Some, None, refl, sym, ap, ◌∙◌, subst, arith}
use Rattle.std.specs.Prelude.{nat_le, nat_eq, if◌then◌else◌, sum_by, flat_map, ◌↔◌}
use Rattle.std.proofs.lemmas.Bool.{leb-true, leb-false, eqb-true, eqb-false}
use Rattle.tk_app.specs.declared.turns.Turn.{Turn}
use Rattle.tk_app.specs.Rounds.{turns_of}
use Rattle.tk_app.specs.Passing.{brought}
use Rattle.tk_app.specs.Stages.{earlier, first_moment_due, stage_at, used_at}
use Rattle.tk_app.specs.Due.{IsPast, settled_if, settled_if_due_at}
use Rattle.tk_app.specs.Together.{IsAmong, IsOwnOfOne, RisesFrom, Rises, before, own_moments, stage_moments, taken_at, turns_to}
use Rattle.tk_app.proofs.Passing.{pass_none, pass_late, pass_step, brought_step}
use Rattle.tk_app.proofs.Stages.{IsFrom, brought_at, brought_past, both_from, both_past, stage_lighter, stage_past, told_past, told_step}

-- two functions that tell the same of each number that rises above another
flat_above : {Y : Type 0} (f g : ℕ → List Y) (m : ℕ) (ns : List ℕ) → RisesFrom m ns → ((n : ℕ) → m < n → f n ≡ g n) → flat_map f ns ≡ flat_map g ns
flat_above f g m [] rises same = refl
flat_above f g m (n ∷ ns) rises same =
    ap (λ ys. ys ++ flat_map f ns) (same n rises.0) ∙ ap (λ ys. g n ++ ys) (flat_above f g n ns rises.1 (λ k lt. same k (omega (arith, lt, rises.0))))

module _ {P : Type 0} (next_due : P → Option ℕ) (settled : ℕ → P → P) (weight : P → ℕ)
    (lighter : (p : P) (due : ℕ) → next_due p ≡ Some due → weight (settled due p) < weight p) where
  abbrev at : ℕ → List P → List P
  at moment parts = stage_at next_due settled moment parts

  abbrev first : List P → Option ℕ
  first parts = first_moment_due next_due settled parts

  abbrev moments : ℕ → List P → List ℕ
  moments last parts = stage_moments next_due settled weight last parts

  abbrev own : ℕ → P → List ℕ
  own last p = own_moments next_due settled weight last p

  -- ── the moments of the stages ──

  moments_step : (last due : ℕ) (parts : List P) → first parts ≡ Some due → due ≤ last → moments last parts ≡ due ∷ moments last (at due parts)
  moments_step last due parts next in_time =
      pass_step (first_moment_due next_due settled) (stage_at next_due settled) (λ due there later. due ∷ later) (λ there. []) (sum_by weight) (stage_lighter next_due settled weight lighter) last due parts next in_time

  moments_past : (last : ℕ) (parts : List P) → IsPast last (first parts) → moments last parts ≡ []
  moments_past last parts past = by (first parts) refl past
    where
      by : (o : Option ℕ) → first parts ≡ o → IsPast last o → moments last parts ≡ []
      by None next past =
          pass_none (first_moment_due next_due settled) (stage_at next_due settled) (λ due there later. due ∷ later) (λ there. []) (sum_by weight) (stage_lighter next_due settled weight lighter) last (sum_by weight parts) parts next
      by (Some due) next late =
          pass_late (first_moment_due next_due settled) (stage_at next_due settled) (λ due there later. due ∷ later) (λ there. []) (sum_by weight) (stage_lighter next_due settled weight lighter) last (sum_by weight parts) due parts next late

  -- ── they rise ──

  module _ (quiet : (p : P) (moment : ℕ) → IsPast moment (next_due (settled moment p))) where
    rises_by : (k last m : ℕ) (parts : List P) → sum_by weight parts ≤ k → IsPast m (first parts) → RisesFrom m (moments last parts)
    rises_by zero last m parts few past = by (first parts) refl
      where
        by : (o : Option ℕ) → first parts ≡ o → RisesFrom m (moments last parts)
        by None next = let none : IsPast last (first parts) = rw next tt in subst (RisesFrom m) (sym (moments_past last parts none)) tt
        by (Some due) next = absurd (omega (arith, stage_lighter next_due settled weight lighter parts due next, few))
    rises_by (suc k) last m parts few past =
        by (first parts) refl past
        (λ due next. rises_by k last due (at due parts) (omega (arith, stage_lighter next_due settled weight lighter parts due next, few))
        (stage_past next_due settled weight lighter due parts (λ q. quiet q due) (let from : IsFrom due (first parts) = rw next (omega arith) in from)))
      where
        by_test : (due : ℕ) (b : Bool) → first parts ≡ Some due → m < due → nat_le due last ≡ b → ((due : ℕ) → first parts ≡ Some due → RisesFrom due (moments last (at due parts))) → RisesFrom m (moments last parts)
        by_test due true next late is later = subst (RisesFrom m) (sym (moments_step last due parts next (leb-true due last is))) (late, later due next)
        by_test due false next late is later = let none : IsPast last (first parts) = rw next (leb-false due last is) in subst (RisesFrom m) (sym (moments_past last parts none)) tt

        by : (o : Option ℕ) → first parts ≡ o → IsPast m o → ((due : ℕ) → first parts ≡ Some due → RisesFrom due (moments last (at due parts))) → RisesFrom m (moments last parts)
        by None next past later = let none : IsPast last (first parts) = rw next tt in subst (RisesFrom m) (sym (moments_past last parts none)) tt
        by (Some due) next past later = by_test due (nat_le due last) next past refl later

    pub moments_rise : (last : ℕ) (parts : List P) → Rises (moments last parts)
    moments_rise last parts = by (first parts) refl
      where
        by_test : (due : ℕ) (b : Bool) → first parts ≡ Some due → nat_le due last ≡ b → Rises (moments last parts)
        by_test due true next is =
            subst Rises (sym (moments_step last due parts next (leb-true due last is)))
            (rises_by (sum_by weight (at due parts)) last due (at due parts) (omega arith)
            (stage_past next_due settled weight lighter due parts (λ q. quiet q due) (let from : IsFrom due (first parts) = rw next (omega arith) in from)))
        by_test due false next is = let none : IsPast last (first parts) = rw next (leb-false due last is) in subst Rises (sym (moments_past last parts none)) tt

        by : (o : Option ℕ) → first parts ≡ o → Rises (moments last parts)
        by None next = let none : IsPast last (first parts) = rw next tt in subst Rises (sym (moments_past last parts none)) tt
        by (Some due) next = by_test due (nat_le due last) next refl

  -- ── each is due of a part by itself ──

  own_step : (last due : ℕ) (p : P) → next_due p ≡ Some due → due ≤ last → own last p ≡ due ∷ own last (settled due p)
  own_step last due p next in_time = pass_step next_due settled (λ due there later. due ∷ later) (λ there. []) weight lighter last due p next in_time

  own_past : (last : ℕ) (p : P) → IsPast last (next_due p) → own last p ≡ []
  own_past last p past = by (next_due p) refl past
    where
      by : (o : Option ℕ) → next_due p ≡ o → IsPast last o → own last p ≡ []
      by None next past = pass_none next_due settled (λ due there later. due ∷ later) (λ there. []) weight lighter last (weight p) p next
      by (Some due) next late = pass_late next_due settled (λ due there later. due ∷ later) (λ there. []) weight lighter last (weight p) due p next late

  abbrev IsOwn : ℕ → ℕ → List P → Type 0
  IsOwn last m parts = IsOwnOfOne next_due settled weight last m parts

  none_own : (last m : ℕ) (parts : List P) → IsPast last (first parts) → IsOwn last m parts → ⊥
  none_own last m [] past is = is
  none_own last m (p ∷ ps) past (inl here) = let both = both_past last (next_due p) (first ps) past in subst (IsAmong m) (own_past last p both.0) here
  none_own last m (p ∷ ps) past (inr later) = let both = both_past last (next_due p) (first ps) past in none_own last m ps both.1 later

  -- the first that is due is its part's own
  first_own : (last due : ℕ) (parts : List P) → first parts ≡ Some due → due ≤ last → IsOwn last due parts
  first_own last due [] next in_time = cc
  first_own last due (p ∷ ps) next in_time = by (next_due p) (first ps) refl refl (λ later. first_own last due ps later in_time) next
    where
      head : next_due p ≡ Some due → IsOwn last due (p ∷ ps)
      head is = inl (subst (IsAmong due) (sym (own_step last due p is in_time)) (inl refl))

      by_least : (x y : ℕ) (b : Bool) → nat_le x y ≡ b → next_due p ≡ Some x → first ps ≡ Some y → (first ps ≡ Some due → IsOwn last due ps) → min x y ≡ due → IsOwn last due (p ∷ ps)
      by_least x y true le a b later is = head (a ∙ ap Some (let same : x ≡ due = omega (arith, leb-true x y le, is) in same))
      by_least x y false gt a b later is = inr (later (b ∙ ap Some (let same : y ≡ due = omega (arith, leb-false x y gt, is) in same)))

      by : (a b : Option ℕ) → next_due p ≡ a → first ps ≡ b → (first ps ≡ Some due → IsOwn last due ps) → earlier a b ≡ Some due → IsOwn last due (p ∷ ps)
      by None b m n later is = inr (later (n ∙ is))
      by (Some x) None m n later is = head (m ∙ is)
      by (Some x) (Some y) m n later is = by_least x y (nat_le x y) refl m n later (let same : min x y ≡ due = cc in same)

  -- a moment of a part is the one of the stage, or is its own after it
  one_on : (last due m : ℕ) (p : P) → due ≤ last → IsAmong m (own last p) → (due ≡ m) ⊎ IsAmong m (own last (settled_if_due_at next_due settled due p))
  one_on last due m p in_time is = by (next_due p) refl
    where
      by_test : (d : ℕ) (b : Bool) → next_due p ≡ Some d → nat_eq d due ≡ b → (due ≡ m) ⊎ IsAmong m (own last (if b then settled due p else p))
      by_test d true next here = subst (IsAmong m) (own_step last due p (next ∙ ap Some (eqb-true d due here)) in_time) is
      by_test d false next other = inr is

      by : (o : Option ℕ) → next_due p ≡ o → (due ≡ m) ⊎ IsAmong m (own last (settled_if next_due settled o due p))
      by None next = inr is
      by (Some d) next = by_test d (nat_eq d due) next refl

  one_back : (last due m : ℕ) (p : P) → due ≤ last → IsAmong m (own last (settled_if_due_at next_due settled due p)) → IsAmong m (own last p)
  one_back last due m p in_time = by (next_due p) refl
    where
      by_test : (d : ℕ) (b : Bool) → next_due p ≡ Some d → nat_eq d due ≡ b → IsAmong m (own last (if b then settled due p else p)) → IsAmong m (own last p)
      by_test d true next here is = subst (IsAmong m) (sym (own_step last due p (next ∙ ap Some (eqb-true d due here)) in_time)) (inr is)
      by_test d false next other is = is

      by : (o : Option ℕ) → next_due p ≡ o → IsAmong m (own last (settled_if next_due settled o due p)) → IsAmong m (own last p)
      by None next is = is
      by (Some d) next is = by_test d (nat_eq d due) next refl is

  all_on : (last due m : ℕ) (parts : List P) → due ≤ last → IsOwn last m parts → (due ≡ m) ⊎ IsOwn last m (at due parts)
  all_on last due m [] in_time is = absurd is
  all_on last due m (p ∷ ps) in_time (inl here) = elim (one_on last due m p in_time here) [ inl same ↦ inl same | inr later ↦ inr (inl later) ]
  all_on last due m (p ∷ ps) in_time (inr later) = elim (all_on last due m ps in_time later) [ inl same ↦ inl same | inr there ↦ inr (inr there) ]

  all_back : (last due m : ℕ) (parts : List P) → due ≤ last → IsOwn last m (at due parts) → IsOwn last m parts
  all_back last due m [] in_time is = is
  all_back last due m (p ∷ ps) in_time (inl here) = inl (one_back last due m p in_time here)
  all_back last due m (p ∷ ps) in_time (inr later) = inr (all_back last due m ps in_time later)

  own_by : (k last m : ℕ) (parts : List P) → sum_by weight parts ≤ k → (IsAmong m (moments last parts) → IsOwn last m parts) × (IsOwn last m parts → IsAmong m (moments last parts))
  own_by zero last m parts few = by (first parts) refl
    where
      by : (o : Option ℕ) → first parts ≡ o → (IsAmong m (moments last parts) → IsOwn last m parts) × (IsOwn last m parts → IsAmong m (moments last parts))
      by None next =
          let past : IsPast last (first parts) = rw next tt in
          (λ is. absurd (subst (IsAmong m) (moments_past last parts past) is), λ is. absurd (none_own last m parts past is))
      by (Some due) next = absurd (omega (arith, stage_lighter next_due settled weight lighter parts due next, few))
  own_by (suc k) last m parts few =
      by (first parts) refl (λ due next. own_by k last m (at due parts) (omega (arith, stage_lighter next_due settled weight lighter parts due next, few)))
    where
      ends : IsPast last (first parts) → (IsAmong m (moments last parts) → IsOwn last m parts) × (IsOwn last m parts → IsAmong m (moments last parts))
      ends past = (λ is. absurd (subst (IsAmong m) (moments_past last parts past) is), λ is. absurd (none_own last m parts past is))

      goes : (due : ℕ) → first parts ≡ Some due → due ≤ last → (IsAmong m (moments last (at due parts)) → IsOwn last m (at due parts)) × (IsOwn last m (at due parts) → IsAmong m (moments last (at due parts)))
          → (IsAmong m (moments last parts) → IsOwn last m parts) × (IsOwn last m parts → IsAmong m (moments last parts))
      goes due next in_time later = (
        λ is. forth (subst (IsAmong m) (moments_step last due parts next in_time) is),
        λ is. subst (IsAmong m) (sym (moments_step last due parts next in_time)) (back (all_on last due m parts in_time is)),
      )
        where
          forth : (due ≡ m) ⊎ IsAmong m (moments last (at due parts)) → IsOwn last m parts
          forth (inl same) = subst (λ n. IsOwn last n parts) same (first_own last due parts next in_time)
          forth (inr there) = all_back last due m parts in_time (later.0 there)

          back : (due ≡ m) ⊎ IsOwn last m (at due parts) → (due ≡ m) ⊎ IsAmong m (moments last (at due parts))
          back (inl same) = inl same
          back (inr there) = inr (later.1 there)

      by_test : (due : ℕ) (b : Bool) → first parts ≡ Some due → nat_le due last ≡ b
          → ((due : ℕ) → first parts ≡ Some due → (IsAmong m (moments last (at due parts)) → IsOwn last m (at due parts)) × (IsOwn last m (at due parts) → IsAmong m (moments last (at due parts))))
          → (IsAmong m (moments last parts) → IsOwn last m parts) × (IsOwn last m parts → IsAmong m (moments last parts))
      by_test due true next is later = goes due next (leb-true due last is) (later due next)
      by_test due false next is later = ends (rw next (leb-false due last is))

      by : (o : Option ℕ) → first parts ≡ o
          → ((due : ℕ) → first parts ≡ Some due → (IsAmong m (moments last (at due parts)) → IsOwn last m (at due parts)) × (IsOwn last m (at due parts) → IsAmong m (moments last (at due parts))))
          → (IsAmong m (moments last parts) → IsOwn last m parts) × (IsOwn last m parts → IsAmong m (moments last parts))
      by None next later = ends (rw next tt)
      by (Some due) next later = by_test due (nat_le due last) next refl later

  pub moments_own : (last m : ℕ) (parts : List P) → IsAmong m (moments last parts) ↔ IsOwn last m parts
  moments_own last m parts = own_by (sum_by weight parts) last m parts (omega arith)

  -- ── turns ──

  module _ (quiet : (p : P) (moment : ℕ) → IsPast moment (next_due (settled moment p))) (steps_left : P → ℕ) (slice : ℕ) where
    abbrev taken : ℕ → P → ℕ
    taken moment p = taken_at next_due settled weight steps_left moment p

    before_first : (due : ℕ) (p : P) → IsFrom due (next_due p) → before next_due settled weight due p ≡ p
    before_first zero p from = refl
    before_first (suc moment) p from = brought_past next_due settled weight lighter moment p (by (next_due p) from)
      where
        by : (o : Option ℕ) → IsFrom (suc moment) o → IsPast moment o
        by None from = tt
        by (Some due) from = omega (arith, from)

    to_first : (due : ℕ) (p : P) → IsFrom due (next_due p) → brought next_due settled weight due p ≡ settled_if_due_at next_due settled due p
    to_first due p from = by (next_due p) refl from
      where
        by_test : (d : ℕ) (b : Bool) → next_due p ≡ Some d → nat_eq d due ≡ b → due ≤ d → brought next_due settled weight due p ≡ (if b then settled due p else p)
        by_test d true next here le =
            brought_step next_due settled weight lighter due due p (next ∙ ap Some (eqb-true d due here)) (omega arith) ∙ brought_past next_due settled weight lighter due (settled due p) (quiet p due)
        by_test d false next other le = brought_past next_due settled weight lighter due p (rw next (omega (arith, le, eqb-false d due other)))

        by : (o : Option ℕ) → next_due p ≡ o → IsFrom due o → brought next_due settled weight due p ≡ settled_if next_due settled o due p
        by None next from = brought_past next_due settled weight lighter due p (rw next tt)
        by (Some d) next from = by_test d (nat_eq d due) next refl from

    -- what a part takes at the moment of the first is what it takes there by itself
    taken_first : (due : ℕ) (parts : List P) → IsFrom due (first parts) → map (used_at next_due settled steps_left due) parts ≡ map (taken due) parts
    taken_first due [] from = refl
    taken_first due (p ∷ ps) from =
        let both = both_from due (next_due p) (first ps) from in
        let here : used_at next_due settled steps_left due p ≡ taken due p =
        ap (λ q. steps_left q - steps_left (settled_if_due_at next_due settled due p)) (sym (before_first due p both.0))
        ∙ ap (λ q. steps_left (before next_due settled weight due p) - steps_left q) (sym (to_first due p both.0)) in
        ap (λ n. n ∷ map (used_at next_due settled steps_left due) ps) here ∙ ap (λ ns. taken due p ∷ ns) (taken_first due ps both.1)

    before_after : (due moment : ℕ) (p : P) → due < moment → before next_due settled weight moment (settled_if_due_at next_due settled due p) ≡ before next_due settled weight moment p
    before_after due zero p lt = absurd (omega (arith, lt))
    before_after due (suc moment) p lt = brought_at next_due settled weight lighter moment due p (omega (arith, lt))

    -- and later it takes the same
    taken_later : (due moment : ℕ) (parts : List P) → due < moment → map (taken moment) (at due parts) ≡ map (taken moment) parts
    taken_later due moment [] lt = refl
    taken_later due moment (p ∷ ps) lt =
        let there : P = settled_if_due_at next_due settled due p in
        let here : taken moment there ≡ taken moment p =
        ap (λ q. steps_left q - steps_left (brought next_due settled weight moment there)) (before_after due moment p lt)
        ∙ ap (λ q. steps_left (before next_due settled weight moment p) - steps_left q) (brought_at next_due settled weight lighter moment due p (omega (arith, lt))) in
        ap (λ n. n ∷ map (taken moment) (at due ps)) here ∙ ap (λ ns. taken moment p ∷ ns) (taken_later due moment ps lt)

    abbrev told : ℕ → List P → List Turn
    told last parts = turns_to next_due settled weight steps_left slice last parts

    abbrev stage : List P → ℕ → List Turn
    stage parts moment = turns_of slice (map (taken moment) parts)

    alone_by : (k last : ℕ) (parts : List P) → sum_by weight parts ≤ k → told last parts ≡ flat_map (stage parts) (moments last parts)
    alone_by zero last parts few = by (first parts) refl
      where
        by : (o : Option ℕ) → first parts ≡ o → told last parts ≡ flat_map (stage parts) (moments last parts)
        by None next =
            let past : IsPast last (first parts) = rw next tt in
            told_past next_due settled weight lighter steps_left slice last parts past ∙ ap (flat_map (stage parts)) (sym (moments_past last parts past))
        by (Some due) next = absurd (omega (arith, stage_lighter next_due settled weight lighter parts due next, few))
    alone_by (suc k) last parts few =
        by (first parts) refl (λ due next. alone_by k last (at due parts) (omega (arith, stage_lighter next_due settled weight lighter parts due next, few)))
      where
        ends : IsPast last (first parts) → told last parts ≡ flat_map (stage parts) (moments last parts)
        ends past = told_past next_due settled weight lighter steps_left slice last parts past ∙ ap (flat_map (stage parts)) (sym (moments_past last parts past))

        goes : (due : ℕ) → first parts ≡ Some due → due ≤ last → told last (at due parts) ≡ flat_map (stage (at due parts)) (moments last (at due parts)) → told last parts ≡ flat_map (stage parts) (moments last parts)
        goes due next in_time later =
            let from : IsFrom due (first parts) = rw next (omega arith) in
            let rises : RisesFrom due (moments last (at due parts)) =
            rises_by quiet (sum_by weight (at due parts)) last due (at due parts) (omega arith) (stage_past next_due settled weight lighter due parts (λ q. quiet q due) from) in
            told_step next_due settled weight lighter steps_left slice last due parts next in_time
            ∙ ap (λ ns. turns_of slice ns ++ told last (at due parts)) (taken_first due parts from)
            ∙ ap (λ ts. stage parts due ++ ts)
            (later ∙ flat_above (stage (at due parts)) (stage parts) due (moments last (at due parts)) rises (λ m lt. ap (turns_of slice) (taken_later due m parts lt)))
            ∙ ap (flat_map (stage parts)) (sym (moments_step last due parts next in_time))

        by_test : (due : ℕ) (b : Bool) → first parts ≡ Some due → nat_le due last ≡ b → ((due : ℕ) → first parts ≡ Some due → told last (at due parts) ≡ flat_map (stage (at due parts)) (moments last (at due parts)))
            → told last parts ≡ flat_map (stage parts) (moments last parts)
        by_test due true next is later = goes due next (leb-true due last is) (later due next)
        by_test due false next is later = ends (rw next (leb-false due last is))

        by : (o : Option ℕ) → first parts ≡ o → ((due : ℕ) → first parts ≡ Some due → told last (at due parts) ≡ flat_map (stage (at due parts)) (moments last (at due parts)))
            → told last parts ≡ flat_map (stage parts) (moments last parts)
        by None next later = ends (rw next tt)
        by (Some due) next later = by_test due (nat_le due last) next refl later

    pub told_alone : (last : ℕ) (parts : List P) → told last parts ≡ flat_map (stage parts) (moments last parts)
    told_alone last parts = alone_by (sum_by weight parts) last parts (omega arith)
