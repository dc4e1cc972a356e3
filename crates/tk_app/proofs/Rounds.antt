-- Rounds, one after another: a first one and the rest, and that there are enough of them.
use Rattle.std.proofs.Common.{◌≡◌, ◌+◌, ◌-◌, ◌*◌, ◌≤◌, ◌<◌, ◌++◌, ℕ, zero, suc, List, [], ◌∷◌, map, sum, refl, sym, ap, ◌∙◌, append_assoc, arith}
use Rattle.std.specs.Prelude.{min, flat_map}
use Rattle.std.specs.List.{range_with_len}
use Rattle.std.proofs.lemmas.List.Sums.{sum_by-cons}
use Rattle.tk_app.specs.declared.turns.Turn.{Turn}
use Rattle.tk_app.specs.Rounds.{one_turn, round_from, round, turns_of}

pub sum-cons : (n : ℕ) (ns : List ℕ) → sum (n ∷ ns) ≡ n + sum ns
sum-cons n ns = sum_by-cons (λ (x : ℕ). x) n ns

-- what is still needed after a round
abbrev pub after_round : ℕ → List ℕ → List ℕ
after_round slice needs = map (λ need. need - slice) needs

-- so many rounds, with so many before them
abbrev pub rounds : ℕ → ℕ → ℕ → List ℕ → List Turn
rounds n slice behind needs = flat_map (round slice needs) (range_with_len behind n)

-- a round more behind is a slice less to go
later_round : (slot slice behind : ℕ) (needs : List ℕ) → round_from slot slice (behind + 1) needs ≡ round_from slot slice behind (after_round slice needs)
later_round slot slice behind [] = refl
later_round slot slice behind (need ∷ needs) =
    let here : need - (behind + 1) * slice ≡ (need - slice) - behind * slice = omega arith in
    ap (λ n. one_turn slot (min slice n) ++ round_from (slot + 1) slice (behind + 1) needs) here
    ∙ ap (λ ts. one_turn slot (min slice ((need - slice) - behind * slice)) ++ ts) (later_round (slot + 1) slice behind needs)

later_rounds : (n slice behind : ℕ) (needs : List ℕ) → rounds n slice (behind + 1) needs ≡ rounds n slice behind (after_round slice needs)
later_rounds zero slice behind needs = refl
later_rounds (suc n) slice behind needs =
    ap (λ ts. ts ++ rounds n slice (behind + 1 + 1) needs) (later_round 0 slice behind needs)
    ∙ ap (λ ts. round slice (after_round slice needs) behind ++ ts) (later_rounds n slice (behind + 1) needs)

rounds_more : (n slice : ℕ) (needs : List ℕ) → rounds (suc n) slice 0 needs ≡ round slice needs 0 ++ rounds n slice 0 (after_round slice needs)
rounds_more n slice needs = ap (λ ts. round slice needs 0 ++ ts) (later_rounds n slice 0 needs)

-- ── enough rounds ──

after_most : (slice : ℕ) (needs : List ℕ) → sum (after_round slice needs) ≤ sum needs
after_most slice [] = omega arith
after_most slice (need ∷ needs) = omega (arith, sum-cons need needs, sum-cons (need - slice) (after_round slice needs), after_most slice needs)

-- a round takes a step where one is needed
after_less : (slice : ℕ) (needs : List ℕ) → 1 ≤ slice → 0 < sum needs → sum (after_round slice needs) < sum needs
after_less slice [] positive some = absurd (omega (arith, some))
after_less slice (zero ∷ needs) positive some =
    omega (arith, sum-cons 0 needs, sum-cons (0 - slice) (after_round slice needs), after_less slice needs positive (omega (arith, sum-cons 0 needs, some)))
after_less slice (suc need ∷ needs) positive some =
    omega (arith, sum-cons (suc need) needs, sum-cons (suc need - slice) (after_round slice needs), after_most slice needs, positive)

pub fewer_after : (k slice : ℕ) (needs : List ℕ) → 1 ≤ slice → sum needs ≤ suc k → sum (after_round slice needs) ≤ k
fewer_after k slice needs positive most = by (sum needs) refl
  where
    by : (s : ℕ) → sum needs ≡ s → sum (after_round slice needs) ≤ k
    by zero is = omega (arith, after_most slice needs, is)
    by (suc s) is = omega (arith, after_less slice needs positive (omega (arith, is)), most)

round_none : (slot slice : ℕ) (needs : List ℕ) → sum needs ≡ 0 → round_from slot slice 0 needs ≡ []
round_none slot slice [] none = refl
round_none slot slice (need ∷ needs) none =
    let nothing : min slice (need - 0 * slice) ≡ 0 = omega (arith, sum-cons need needs, none) in
    ap (λ k. one_turn slot k ++ round_from (slot + 1) slice 0 needs) nothing ∙ round_none (slot + 1) slice needs (omega (arith, sum-cons need needs, none))

rounds_none : (n slice : ℕ) (needs : List ℕ) → sum needs ≡ 0 → rounds n slice 0 needs ≡ []
rounds_none zero slice needs none = refl
rounds_none (suc n) slice needs none =
    rounds_more n slice needs ∙ ap (λ ts. ts ++ rounds n slice 0 (after_round slice needs)) (round_none 0 slice needs none)
    ∙ rounds_none n slice (after_round slice needs) (omega (arith, after_most slice needs, none))

rounds_same : (t u slice : ℕ) (needs : List ℕ) → 1 ≤ slice → sum needs ≤ t → sum needs ≤ u → rounds t slice 0 needs ≡ rounds u slice 0 needs
rounds_same zero u slice needs positive few enough = sym (rounds_none u slice needs (omega (arith, few)))
rounds_same (suc t) zero slice needs positive few enough = rounds_none (suc t) slice needs (omega (arith, enough))
rounds_same (suc t) (suc u) slice needs positive few enough =
    rounds_more t slice needs
    ∙ ap (λ ts. round slice needs 0 ++ ts) (rounds_same t u slice (after_round slice needs) positive (fewer_after t slice needs positive few) (fewer_after u slice needs positive enough))
    ∙ sym (rounds_more u slice needs)

-- the turns of a stage begin with a round
pub turns_step : (slice : ℕ) (needs : List ℕ) → 1 ≤ slice → turns_of slice needs ≡ round slice needs 0 ++ turns_of slice (after_round slice needs)
turns_step slice needs positive =
    rounds_same (sum needs) (suc (sum needs)) slice needs positive (omega arith) (omega arith)
    ∙ rounds_more (sum needs) slice needs
    ∙ ap (λ ts. round slice needs 0 ++ ts) (rounds_same (sum needs) (sum (after_round slice needs)) slice (after_round slice needs) positive (after_most slice needs) (omega arith))

pub turns_none : (slice : ℕ) (needs : List ℕ) → sum needs ≡ 0 → turns_of slice needs ≡ []
turns_none slice needs none = rounds_none (sum needs) slice needs none

-- one round is told, and the others are left
pub turns_more : (slice : ℕ) (needs left : List ℕ) (turns turns' all : List Turn) → 1 ≤ slice → left ≡ after_round slice needs → turns' ≡ turns ++ round slice needs 0
    → turns ++ turns_of slice needs ≡ all → turns' ++ turns_of slice left ≡ all
turns_more slice needs left turns turns' all positive less told before =
    ap (λ ts. ts ++ turns_of slice left) told
    ∙ ap (λ ns. (turns ++ round slice needs 0) ++ turns_of slice ns) less
    ∙ append_assoc turns (round slice needs 0) (turns_of slice (after_round slice needs))
    ∙ ap (λ ts. turns ++ ts) (sym (turns_step slice needs positive))
    ∙ before
