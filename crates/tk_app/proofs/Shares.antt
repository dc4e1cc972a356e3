-- What turns add up to.
use Rattle.std.proofs.Common.{◌≡◌, ◌≢◌, ◌+◌, ◌-◌, ◌*◌, ◌≤◌, ◌<◌, ◌++◌, ℕ, zero, suc, Bool, true, false, cond, List, [], ◌∷◌, map, sum, refl, ap, ◌∙◌, eq-eqb, arith}
use Rattle.std.specs.Prelude.{min, ◌==◌, nat_eq, filter, slice_index, sum_by}
use Rattle.std.proofs.lemmas.Bool.{eqb-true}
use Rattle.std.proofs.lemmas.List.Elements.{filter-append}
use Rattle.std.proofs.lemmas.List.Sums.{sum_by-append, sum_by-cons}
use Rattle.tk_app.specs.declared.turns.Turn.{Turn}
use Rattle.tk_app.specs.Rounds.{one_turn, round_from, round, turns_of}
use Rattle.tk_app.specs.Shares.{steps_in, taken_by}
use Rattle.tk_app.proofs.Rounds.{after_round, fewer_after, sum-cons, turns_none, turns_step}

pub steps_in-append : (ts us : List Turn) → steps_in (ts ++ us) ≡ steps_in ts + steps_in us
steps_in-append ts us = sum_by-append (λ (turn : Turn). turn.steps) ts us

pub taken_by-append : (slot : ℕ) (ts us : List Turn) → taken_by slot (ts ++ us) ≡ taken_by slot ts + taken_by slot us
taken_by-append slot ts us = ap steps_in (filter-append (λ (turn : Turn). turn.slot == slot) ts us) ∙ steps_in-append (filter (λ (turn : Turn). turn.slot == slot) ts) (filter (λ (turn : Turn). turn.slot == slot) us)

steps_in-entry : (slot n : ℕ) → steps_in (one_turn slot n) ≡ n
steps_in-entry slot zero = refl
steps_in-entry slot (suc n) = omega arith

pub taken_own : (slot n : ℕ) → taken_by slot (one_turn slot n) ≡ n
taken_own slot zero = refl
taken_own slot (suc n) =
    let one : 0 + suc n ≡ suc n = omega arith in
    ap (λ b. steps_in (cond b (record { slot = slot; steps = suc n } ∷ []) [])) (eq-eqb slot slot refl) ∙ one

pub taken_other : (slot other n : ℕ) → other ≢ slot → taken_by slot (one_turn other n) ≡ 0
taken_other slot other zero differ = refl
taken_other slot other (suc n) differ = by (nat_eq other slot) refl
  where
    by : (b : Bool) → nat_eq other slot ≡ b → steps_in (cond b (record { slot = other; steps = suc n } ∷ []) []) ≡ 0
    by true is = absurd (differ (eqb-true other slot is))
    by false is = refl

taken_below : (slot start slice : ℕ) (needs : List ℕ) → slot < start → taken_by slot (round_from start slice 0 needs) ≡ 0
taken_below slot start slice [] below = refl
taken_below slot start slice (need ∷ needs) below =
    taken_by-append slot (one_turn start (min slice (need - 0 * slice))) (round_from (start + 1) slice 0 needs)
    ∙ omega (arith, taken_other slot start (min slice (need - 0 * slice)) (λ same. omega (arith, same, below)), taken_below slot (start + 1) slice needs (omega (arith, below)))

taken_from : (slot start i slice : ℕ) (needs : List ℕ) → start + i ≡ slot → taken_by slot (round_from start slice 0 needs) ≡ min slice (slice_index needs i)
taken_from slot start i slice [] at = omega arith
taken_from slot start zero slice (need ∷ needs) at =
    let same : start ≡ slot = omega (arith, at) in
    let all : min slice (need - 0 * slice) ≡ min slice need = omega arith in
    taken_by-append slot (one_turn start (min slice (need - 0 * slice))) (round_from (start + 1) slice 0 needs)
    ∙ omega (arith, ap (λ s. taken_by slot (one_turn s (min slice (need - 0 * slice)))) same, taken_own slot (min slice (need - 0 * slice)), all, taken_below slot (start + 1) slice needs (omega (arith, same)))
taken_from slot start (suc i) slice (need ∷ needs) at =
    taken_by-append slot (one_turn start (min slice (need - 0 * slice))) (round_from (start + 1) slice 0 needs)
    ∙ omega (arith, taken_other slot start (min slice (need - 0 * slice)) (λ same. omega (arith, same, at)), taken_from slot (start + 1) i slice needs (omega (arith, at)))

index_after : (slice i : ℕ) (needs : List ℕ) → slice_index (after_round slice needs) i ≡ slice_index needs i - slice
index_after slice i [] = omega arith
index_after slice zero (need ∷ needs) = refl
index_after slice (suc i) (need ∷ needs) = index_after slice i needs

index_most : (i : ℕ) (needs : List ℕ) → slice_index needs i ≤ sum needs
index_most i [] = omega arith
index_most zero (need ∷ needs) = omega (arith, sum-cons need needs)
index_most (suc i) (need ∷ needs) = omega (arith, sum-cons need needs, index_most i needs)

taken_in : (k slot slice : ℕ) (needs : List ℕ) → 1 ≤ slice → sum needs ≤ k → taken_by slot (turns_of slice needs) ≡ slice_index needs slot
taken_in zero slot slice needs positive few =
    ap (taken_by slot) (turns_none slice needs (omega (arith, few))) ∙ omega (arith, index_most slot needs, few)
taken_in (suc k) slot slice needs positive few =
    ap (taken_by slot) (turns_step slice needs positive)
    ∙ taken_by-append slot (round slice needs 0) (turns_of slice (after_round slice needs))
    ∙ omega (arith, taken_from slot 0 slot slice needs (omega arith), taken_in k slot slice (after_round slice needs) positive (fewer_after k slice needs positive few), index_after slice slot needs)

pub taken_by_turns : (slice slot : ℕ) (needs : List ℕ) → 1 ≤ slice → taken_by slot (turns_of slice needs) ≡ slice_index needs slot
taken_by_turns slice slot needs positive = taken_in (sum needs) slot slice needs positive (omega arith)

steps_round : (start slice : ℕ) (needs : List ℕ) → steps_in (round_from start slice 0 needs) + sum (after_round slice needs) ≡ sum needs
steps_round start slice [] = refl
steps_round start slice (need ∷ needs) =
    let all : min slice (need - 0 * slice) + (need - slice) ≡ need = omega arith in
    omega (
      arith,
      steps_in-append (one_turn start (min slice (need - 0 * slice))) (round_from (start + 1) slice 0 needs),
      steps_in-entry start (min slice (need - 0 * slice)),
      sum-cons (need - slice) (after_round slice needs),
      sum-cons need needs,
      steps_round (start + 1) slice needs,
      all,
    )

steps_all : (k slice : ℕ) (needs : List ℕ) → 1 ≤ slice → sum needs ≤ k → steps_in (turns_of slice needs) ≡ sum needs
steps_all zero slice needs positive few = ap steps_in (turns_none slice needs (omega (arith, few))) ∙ omega (arith, few)
steps_all (suc k) slice needs positive few =
    ap steps_in (turns_step slice needs positive)
    ∙ steps_in-append (round slice needs 0) (turns_of slice (after_round slice needs))
    ∙ omega (arith, steps_round 0 slice needs, steps_all k slice (after_round slice needs) positive (fewer_after k slice needs positive few))

pub steps_in_turns : (slice : ℕ) (needs : List ℕ) → 1 ≤ slice → steps_in (turns_of slice needs) ≡ sum needs
steps_in_turns slice needs positive = steps_all (sum needs) slice needs positive (omega arith)

-- what parts need at most is what they have left
pub sum_used : {P : Type 0} (left there : P → ℕ) (parts : List P) → sum (map (λ p. left p - there p) parts) ≤ sum_by left parts
sum_used left there [] = omega arith
sum_used left there (p ∷ ps) =
    omega (arith, sum-cons (left p - there p) (map (λ p. left p - there p) ps), sum_by-cons left p ps, sum_used left there ps)
