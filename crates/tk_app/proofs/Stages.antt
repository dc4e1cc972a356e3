-- Parts from stage to stage.
use Rattle.std.proofs.Common.{◌≡◌, ◌≤◌, ◌<◌, ◌++◌, min, ℕ, zero, suc, Bool, true, false, List, [], ◌∷◌, map, Option, Some, None, refl, sym, ap, ◌∙◌, eq-eqb, append_assoc, arith}
use Rattle.std.specs.Prelude.{nat_le, nat_eq, if◌then◌else◌, sum_by}
use Rattle.std.proofs.lemmas.Bool.{leb-true, leb-false, eqb-true, eqb-false}
use Rattle.std.proofs.lemmas.List.Sums.{sum_by-cons}
use Rattle.tk_app.specs.declared.turns.Turn.{Turn}
use Rattle.tk_app.specs.Passing.{brought}
use Rattle.tk_app.specs.Stages.{earlier, stage_at, first_moment_due, turns_at}
use Rattle.tk_app.specs.Due.{IsPast, settled_if, settled_if_due_at}
use Rattle.tk_app.specs.Together.{passed_together, turns_to}
use Rattle.tk_app.proofs.Passing.{pass_none, pass_late, pass_step, brought_none, brought_late, brought_step}

pub both_past : (last : ℕ) (a b : Option ℕ) → IsPast last (earlier a b) → IsPast last a × IsPast last b
both_past last None b past = (tt, past)
both_past last (Some x) None past = (past, tt)
both_past last (Some x) (Some y) past = (omega (arith, past), omega (arith, past))

pub past_both : (last : ℕ) (a b : Option ℕ) → IsPast last a → IsPast last b → IsPast last (earlier a b)
past_both last None b first rest = rest
past_both last (Some x) None first rest = first
past_both last (Some x) (Some y) first rest = omega (arith, first, rest)

-- nothing is due before the moment
abbrev pub IsFrom : ℕ → Option ℕ → Type 0
IsFrom moment None = Unit {0}
IsFrom moment (Some due) = moment ≤ due

pub both_from : (moment : ℕ) (a b : Option ℕ) → IsFrom moment (earlier a b) → IsFrom moment a × IsFrom moment b
both_from moment None b from = (tt, from)
both_from moment (Some x) None from = (from, tt)
both_from moment (Some x) (Some y) from = (omega (arith, from), omega (arith, from))

module _ {P : Type 0} (next_due : P → Option ℕ) (settled : ℕ → P → P) (weight : P → ℕ)
    (lighter : (p : P) (due : ℕ) → next_due p ≡ Some due → weight (settled due p) < weight p) where
  abbrev to : ℕ → P → P
  to last p = brought next_due settled weight last p

  abbrev at : ℕ → List P → List P
  at moment parts = stage_at next_due settled moment parts

  abbrev first : List P → Option ℕ
  first parts = first_moment_due next_due settled parts

  pub brought_past : (last : ℕ) (p : P) → IsPast last (next_due p) → to last p ≡ p
  brought_past last p past = by (next_due p) refl past
    where
      by : (o : Option ℕ) → next_due p ≡ o → IsPast last o → to last p ≡ p
      by None next past = brought_none next_due settled weight lighter last p next
      by (Some due) next late = brought_late next_due settled weight lighter last due p next late

  pub all_past : (last : ℕ) (parts : List P) → IsPast last (first parts) → map (to last) parts ≡ parts
  all_past last [] past = refl
  all_past last (p ∷ ps) past =
      let both = both_past last (next_due p) (first ps) past in
      ap (λ q. q ∷ map (to last) ps) (brought_past last p both.0) ∙ ap (λ qs. p ∷ qs) (all_past last ps both.1)

  -- A stage at a moment is one of its own to a part that is due then, and nothing to another: others' moments leave it where it is on its way.
  pub brought_at : (last moment : ℕ) (p : P) → moment ≤ last → to last (settled_if_due_at next_due settled moment p) ≡ to last p
  brought_at last moment p in_time = by (next_due p) refl
    where
      by_test : (due : ℕ) (b : Bool) → next_due p ≡ Some due → nat_eq due moment ≡ b → to last (if b then settled moment p else p) ≡ to last p
      by_test due true next is = sym (brought_step next_due settled weight lighter last moment p (next ∙ ap Some (eqb-true due moment is)) in_time)
      by_test due false next is = refl

      by : (o : Option ℕ) → next_due p ≡ o → to last (settled_if next_due settled o moment p) ≡ to last p
      by None next = refl
      by (Some due) next = by_test due (nat_eq due moment) next refl

  pub all_at : (last moment : ℕ) (parts : List P) → moment ≤ last → map (to last) (at moment parts) ≡ map (to last) parts
  all_at last moment [] in_time = refl
  all_at last moment (p ∷ ps) in_time =
      ap (λ q. q ∷ map (to last) (at moment ps)) (brought_at last moment p in_time) ∙ ap (λ qs. to last p ∷ qs) (all_at last moment ps in_time)

  -- ── later moments ──

  -- a part that has done what was due at the moment of the first, or had nothing due then, has nothing due by it
  one_past : (moment : ℕ) (p : P) → ((q : P) → IsPast moment (next_due (settled moment q))) → IsFrom moment (next_due p) → IsPast moment (next_due (settled_if_due_at next_due settled moment p))
  one_past moment p quiet from = by (next_due p) refl from
    where
      by_test : (due : ℕ) (b : Bool) → next_due p ≡ Some due → nat_eq due moment ≡ b → moment ≤ due → IsPast moment (next_due (if b then settled moment p else p))
      by_test due true next is le = quiet p
      by_test due false next is le = rw next (omega (arith, le, eqb-false due moment is))

      by : (o : Option ℕ) → next_due p ≡ o → IsFrom moment o → IsPast moment (next_due (settled_if next_due settled o moment p))
      by None next from = rw next tt
      by (Some due) next from = by_test due (nat_eq due moment) next refl from

  pub stage_past : (moment : ℕ) (parts : List P) → ((q : P) → IsPast moment (next_due (settled moment q))) → IsFrom moment (first parts) → IsPast moment (first (at moment parts))
  stage_past moment [] quiet from = tt
  stage_past moment (p ∷ ps) quiet from =
      let both = both_from moment (next_due p) (first ps) from in
      past_both moment (next_due (settled_if_due_at next_due settled moment p)) (first (at moment ps)) (one_past moment p quiet both.0) (stage_past moment ps quiet both.1)

  -- ── the measure ──

  one_weighs : (moment : ℕ) (p : P) → weight (settled_if_due_at next_due settled moment p) ≤ weight p
  one_weighs moment p = by (next_due p) refl
    where
      by_test : (due : ℕ) (b : Bool) → next_due p ≡ Some due → nat_eq due moment ≡ b → weight (if b then settled moment p else p) ≤ weight p
      by_test due true next is = omega (arith, lighter p moment (next ∙ ap Some (eqb-true due moment is)))
      by_test due false next is = omega arith

      by : (o : Option ℕ) → next_due p ≡ o → weight (settled_if next_due settled o moment p) ≤ weight p
      by None next = omega arith
      by (Some due) next = by_test due (nat_eq due moment) next refl

  one_lightens : (moment : ℕ) (p : P) → next_due p ≡ Some moment → weight (settled_if_due_at next_due settled moment p) < weight p
  one_lightens moment p next =
      let there : settled_if_due_at next_due settled moment p ≡ settled moment p =
      ap (λ (o : Option ℕ). settled_if next_due settled o moment p) next ∙ ap (λ (b : Bool). if b then settled moment p else p) (eq-eqb moment moment refl) in
      omega (arith, ap weight there, lighter p moment next)

  all_weigh : (moment : ℕ) (parts : List P) → sum_by weight (at moment parts) ≤ sum_by weight parts
  all_weigh moment [] = omega arith
  all_weigh moment (p ∷ ps) =
      omega (arith, sum_by-cons weight (settled_if_due_at next_due settled moment p) (at moment ps), sum_by-cons weight p ps, one_weighs moment p, all_weigh moment ps)

  abbrev Falls : ℕ → List P → Type 0
  Falls due parts = sum_by weight (at due parts) < sum_by weight parts

  -- each stage takes a step or is the last of a part
  pub stage_lighter : (parts : List P) (due : ℕ) → first parts ≡ Some due → sum_by weight (at due parts) < sum_by weight parts
  stage_lighter [] due next = cc
  stage_lighter (p ∷ ps) due next = by (stage_lighter ps due) (next_due p) (first ps) refl refl next
    where
      by_head : next_due p ≡ Some due → Falls due (p ∷ ps)
      by_head is = omega (arith, sum_by-cons weight (settled_if_due_at next_due settled due p) (at due ps), sum_by-cons weight p ps, one_lightens due p is, all_weigh due ps)

      by_tail : (first ps ≡ Some due → Falls due ps) → first ps ≡ Some due → Falls due (p ∷ ps)
      by_tail later is = omega (arith, sum_by-cons weight (settled_if_due_at next_due settled due p) (at due ps), sum_by-cons weight p ps, one_weighs due p, later is)

      by_least : (first ps ≡ Some due → Falls due ps) → (x y : ℕ) (b : Bool) → nat_le x y ≡ b → next_due p ≡ Some x → first ps ≡ Some y → min x y ≡ due → Falls due (p ∷ ps)
      by_least later x y true le a b is = by_head (a ∙ ap Some (let same : x ≡ due = omega (arith, leb-true x y le, is) in same))
      by_least later x y false gt a b is = by_tail later (b ∙ ap Some (let same : y ≡ due = omega (arith, leb-false x y gt, is) in same))

      by : (first ps ≡ Some due → Falls due ps) → (a b : Option ℕ) → next_due p ≡ a → first ps ≡ b → earlier a b ≡ Some due → Falls due (p ∷ ps)
      by later None b m n is = by_tail later (n ∙ is)
      by later (Some x) None m n is = by_head (m ∙ is)
      by later (Some x) (Some y) m n is = by_least later x y (nat_le x y) refl m n (let same : min x y ≡ due = cc in same)

  -- ── together ──

  together_step : (last due : ℕ) (parts : List P) → first parts ≡ Some due → due ≤ last
      → passed_together next_due settled weight last parts ≡ passed_together next_due settled weight last (at due parts)
  together_step last due parts next in_time =
      pass_step (first_moment_due next_due settled) (stage_at next_due settled) (λ due there later. later) (λ there. there) (sum_by weight) stage_lighter last due parts next in_time

  together_past : (last : ℕ) (parts : List P) → IsPast last (first parts) → passed_together next_due settled weight last parts ≡ parts
  together_past last parts past = by (first parts) refl past
    where
      by : (o : Option ℕ) → first parts ≡ o → IsPast last o → passed_together next_due settled weight last parts ≡ parts
      by None next past =
          pass_none (first_moment_due next_due settled) (stage_at next_due settled) (λ due there later. later) (λ there. there) (sum_by weight) stage_lighter last (sum_by weight parts) parts next
      by (Some due) next late =
          pass_late (first_moment_due next_due settled) (stage_at next_due settled) (λ due there later. later) (λ there. there) (sum_by weight) stage_lighter last (sum_by weight parts) due parts next late

  together_by : (k last : ℕ) (parts : List P) → sum_by weight parts ≤ k → passed_together next_due settled weight last parts ≡ map (to last) parts
  together_by zero last parts few = by (first parts) refl
    where
      by : (o : Option ℕ) → first parts ≡ o → passed_together next_due settled weight last parts ≡ map (to last) parts
      by None next = let past : IsPast last (first parts) = rw next tt in together_past last parts past ∙ sym (all_past last parts past)
      by (Some due) next = absurd (omega (arith, stage_lighter parts due next, few))
  together_by (suc k) last parts few = by (first parts) refl (λ due next. together_by k last (at due parts) (omega (arith, stage_lighter parts due next, few)))
    where
      by_test : (due : ℕ) (b : Bool) → first parts ≡ Some due → nat_le due last ≡ b
          → ((due : ℕ) → first parts ≡ Some due → passed_together next_due settled weight last (at due parts) ≡ map (to last) (at due parts))
          → passed_together next_due settled weight last parts ≡ map (to last) parts
      by_test due true next is later =
          let in_time : due ≤ last = leb-true due last is in
          together_step last due parts next in_time ∙ later due next ∙ all_at last due parts in_time
      by_test due false next is later =
          let past : IsPast last (first parts) = rw next (leb-false due last is) in
          together_past last parts past ∙ sym (all_past last parts past)

      by : (o : Option ℕ) → first parts ≡ o
          → ((due : ℕ) → first parts ≡ Some due → passed_together next_due settled weight last (at due parts) ≡ map (to last) (at due parts))
          → passed_together next_due settled weight last parts ≡ map (to last) parts
      by None next later = let past : IsPast last (first parts) = rw next tt in together_past last parts past ∙ sym (all_past last parts past)
      by (Some due) next later = by_test due (nat_le due last) next refl later

  pub together : (last : ℕ) (parts : List P) → passed_together next_due settled weight last parts ≡ map (to last) parts
  together last parts = together_by (sum_by weight parts) last parts (omega arith)

  -- ── turns ──

  module _ (steps_left : P → ℕ) (slice : ℕ) where
    abbrev told : ℕ → List P → List Turn
    told last parts = turns_to next_due settled weight steps_left slice last parts

    pub told_step : (last due : ℕ) (parts : List P) → first parts ≡ Some due → due ≤ last
        → told last parts ≡ turns_at next_due settled steps_left slice due parts ++ told last (at due parts)
    told_step last due parts next in_time =
        pass_step (first_moment_due next_due settled) (stage_at next_due settled) (λ due there later. turns_at next_due settled steps_left slice due there ++ later) (λ there. []) (sum_by weight) stage_lighter
        last due parts next in_time

    pub told_past : (last : ℕ) (parts : List P) → IsPast last (first parts) → told last parts ≡ []
    told_past last parts past = by (first parts) refl past
      where
        by : (o : Option ℕ) → first parts ≡ o → IsPast last o → told last parts ≡ []
        by None next past =
            pass_none (first_moment_due next_due settled) (stage_at next_due settled) (λ due there later. turns_at next_due settled steps_left slice due there ++ later) (λ there. []) (sum_by weight) stage_lighter
            last (sum_by weight parts) parts next
        by (Some due) next late =
            pass_late (first_moment_due next_due settled) (stage_at next_due settled) (λ due there later. turns_at next_due settled steps_left slice due there ++ later) (λ there. []) (sum_by weight) stage_lighter
            last (sum_by weight parts) due parts next late

    told_then_past : (first_to last : ℕ) (parts : List P) → IsPast first_to (first parts) → told last parts ≡ told first_to parts ++ told last (map (to first_to) parts)
    told_then_past first_to last parts past =
        ap (told last) (sym (all_past first_to parts past)) ∙ ap (λ ts. ts ++ told last (map (to first_to) parts)) (sym (told_past first_to parts past))

    told_then : (k first_to last : ℕ) (parts : List P) → first_to ≤ last → sum_by weight parts ≤ k → told last parts ≡ told first_to parts ++ told last (map (to first_to) parts)
    told_then zero first_to last parts le few = by (first parts) refl
      where
        by : (o : Option ℕ) → first parts ≡ o → told last parts ≡ told first_to parts ++ told last (map (to first_to) parts)
        by None next = told_then_past first_to last parts (rw next tt)
        by (Some due) next = absurd (omega (arith, stage_lighter parts due next, few))
    told_then (suc k) first_to last parts le few = by (first parts) refl (λ due next. told_then k first_to last (at due parts) le (omega (arith, stage_lighter parts due next, few)))
      where
        by_test : (due : ℕ) (b : Bool) → first parts ≡ Some due → nat_le due first_to ≡ b
            → ((due : ℕ) → first parts ≡ Some due → told last (at due parts) ≡ told first_to (at due parts) ++ told last (map (to first_to) (at due parts)))
            → told last parts ≡ told first_to parts ++ told last (map (to first_to) parts)
        by_test due true next is later =
            let in_time : due ≤ first_to = leb-true due first_to is in
            let here : List Turn = turns_at next_due settled steps_left slice due parts in
            told_step last due parts next (omega (arith, in_time, le))
            ∙ ap (λ ts. here ++ ts) (later due next ∙ ap (λ ps. told first_to (at due parts) ++ told last ps) (all_at first_to due parts in_time))
            ∙ sym (append_assoc here (told first_to (at due parts)) (told last (map (to first_to) parts)))
            ∙ ap (λ ts. ts ++ told last (map (to first_to) parts)) (sym (told_step first_to due parts next in_time))
        by_test due false next is later = told_then_past first_to last parts (rw next (leb-false due first_to is))

        by : (o : Option ℕ) → first parts ≡ o
            → ((due : ℕ) → first parts ≡ Some due → told last (at due parts) ≡ told first_to (at due parts) ++ told last (map (to first_to) (at due parts)))
            → told last parts ≡ told first_to parts ++ told last (map (to first_to) parts)
        by None next later = told_then_past first_to last parts (rw next tt)
        by (Some due) next later = by_test due (nat_le due first_to) next refl later

    pub told_in_two : (first_to last : ℕ) (parts : List P) → first_to ≤ last → told last parts ≡ told first_to parts ++ told last (map (to first_to) parts)
    told_in_two first_to last parts le = told_then (sum_by weight parts) first_to last parts le (omega arith)
