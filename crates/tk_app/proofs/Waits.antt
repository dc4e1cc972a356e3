-- How long a part waits for its next turn.
use Rattle.std.proofs.Common.{◌≡◌, ◌≢◌, ◌+◌, ◌-◌, ◌*◌, ◌≤◌, ◌<◌, ◌++◌, ℕ, zero, suc, Bool, true, false, List, [], ◌∷◌, length, sum, refl, sym, ap, ◌∙◌, append_assoc, eq-eqb, arith, subst, Option, Some, None}
use Rattle.std.specs.Prelude.{min, nat_eq, nat_le, slice_index, IfSome, option_map, if◌then◌else◌}
use Rattle.std.proofs.lemmas.Bool.{eqb-true, leb-true, leb-false}
use Rattle.tk_app.specs.declared.turns.Turn.{Turn}
use Rattle.tk_app.specs.Rounds.{one_turn, round_from, turns_of}
use Rattle.tk_app.specs.Shares.{before_next, WaitsAtMost}
use Rattle.tk_app.proofs.Rounds.{rounds}

-- the next turn of the slot, if it has one, comes after at most so many steps
abbrev Within : ℕ → ℕ → List Turn → Type 0
Within most slot turns = IfSome (before_next slot turns) (λ steps. steps ≤ most)

within_more : (n most : ℕ) (o : Option ℕ) → IfSome o (λ steps. steps ≤ most) → IfSome (option_map (λ steps. n + steps) o) (λ steps. steps ≤ n + most)
within_more n most None within = tt
within_more n most (Some steps) within = omega (arith, within)

within_less : (less most : ℕ) (o : Option ℕ) → less ≤ most → IfSome o (λ steps. steps ≤ less) → IfSome o (λ steps. steps ≤ most)
within_less less most None le within = tt
within_less less most (Some steps) le within = omega (arith, within, le)

-- a turn of another slot
other_first : (slot other n most : ℕ) (turns : List Turn) → other ≢ slot → Within most slot turns → Within (n + most) slot (one_turn other n ++ turns)
other_first slot other zero most turns differ within = within_less most (0 + most) (before_next slot turns) (omega arith) within
other_first slot other (suc n) most turns differ within = by (nat_eq other slot) refl
  where
    by : (b : Bool) → nat_eq other slot ≡ b → IfSome (if b then Some 0 else option_map (λ steps. suc n + steps) (before_next slot turns)) (λ steps. steps ≤ suc n + most)
    by true is = absurd (differ (eqb-true other slot is))
    by false is = within_more (suc n) most (before_next slot turns) within

own_first : (slot n most : ℕ) (turns : List Turn) → 0 < n → Within most slot (one_turn slot n ++ turns)
own_first slot zero most turns some = absurd (omega (arith, some))
own_first slot (suc n) most turns some =
    subst (λ b. IfSome (if b then Some 0 else option_map (λ steps. suc n + steps) (before_next slot turns)) (λ steps. steps ≤ most)) (sym (eq-eqb slot slot refl)) (omega arith)

none_first : (slot other n : ℕ) (turns : List Turn) → other ≢ slot → before_next slot turns ≡ None → before_next slot (one_turn other n ++ turns) ≡ None
none_first slot other zero turns differ none = none
none_first slot other (suc n) turns differ none = by (nat_eq other slot) refl
  where
    by : (b : Bool) → nat_eq other slot ≡ b → (if b then Some 0 else option_map (λ steps. suc n + steps) (before_next slot turns)) ≡ None
    by true is = absurd (differ (eqb-true other slot is))
    by false is = ap (option_map (λ steps. suc n + steps)) none

waits_first : (most slot other n : ℕ) (turns : List Turn) → other ≢ slot → WaitsAtMost most slot turns → WaitsAtMost most slot (one_turn other n ++ turns)
waits_first most slot other zero turns differ waits = waits
waits_first most slot other (suc n) turns differ waits = (λ same. absurd (differ same), waits)

waits_own : (most slot n : ℕ) (turns : List Turn) → Within most slot turns → WaitsAtMost most slot turns → WaitsAtMost most slot (one_turn slot n ++ turns)
waits_own most slot zero turns within waits = waits
waits_own most slot (suc n) turns within waits = (λ same. within, waits)

-- ── a round of the parts from behind the slot on ──

above_within : (slot start slice behind most : ℕ) (needs : List ℕ) (turns : List Turn) → slot < start → Within most slot turns
    → Within (length needs * slice + most) slot (round_from start slice behind needs ++ turns)
above_within slot start slice behind most [] turns below within = within_less most (0 * slice + most) (before_next slot turns) (omega arith) within
above_within slot start slice behind most (need ∷ needs) turns below within =
    let n : ℕ = min slice (need - behind * slice) in
    let rest : List Turn = round_from (start + 1) slice behind needs in
    let all : ℕ = suc (length needs) * slice + most in
    subst (Within all slot) (sym (append_assoc (one_turn start n) rest turns))
    (within_less (n + (length needs * slice + most)) all (before_next slot (one_turn start n ++ (rest ++ turns))) (omega arith)
    (other_first slot start n (length needs * slice + most) (rest ++ turns) (λ same. omega (arith, same, below)) (above_within slot (start + 1) slice behind most needs turns (omega (arith, below)) within)))

-- a round of others leaves a slot waiting as long
others_wait : (most slot start slice behind : ℕ) (needs : List ℕ) (turns : List Turn) → ((other : ℕ) → start ≤ other → other < start + length needs → other ≢ slot) → WaitsAtMost most slot turns
    → WaitsAtMost most slot (round_from start slice behind needs ++ turns)
others_wait most slot start slice behind [] turns differ waits = waits
others_wait most slot start slice behind (need ∷ needs) turns differ waits =
    let n : ℕ = min slice (need - behind * slice) in
    let rest : List Turn = round_from (start + 1) slice behind needs in
    subst (WaitsAtMost most slot) (sym (append_assoc (one_turn start n) rest turns))
    (waits_first most slot start n (rest ++ turns) (differ start (omega arith) (omega arith))
    (others_wait most slot (start + 1) slice behind needs turns (λ other from below. differ other (omega (arith, from)) (omega (arith, below))) waits))

above_none : (slot start slice behind : ℕ) (needs : List ℕ) (turns : List Turn) → slot < start → before_next slot turns ≡ None
    → before_next slot (round_from start slice behind needs ++ turns) ≡ None
above_none slot start slice behind [] turns below none = none
above_none slot start slice behind (need ∷ needs) turns below none =
    let n : ℕ = min slice (need - behind * slice) in
    let rest : List Turn = round_from (start + 1) slice behind needs in
    ap (before_next slot) (append_assoc (one_turn start n) rest turns)
    ∙ none_first slot start n (rest ++ turns) (λ same. omega (arith, same, below)) (above_none slot (start + 1) slice behind needs turns (omega (arith, below)) none)

-- ── a round with the slot in it ──

own_within : (slot start i slice behind : ℕ) (needs : List ℕ) (turns : List Turn) → 1 ≤ slice → start + i ≡ slot → 0 < slice_index needs i - behind * slice
    → Within (i * slice) slot (round_from start slice behind needs ++ turns)
own_within slot start i slice behind [] turns positive at some = absurd (omega (arith, some))
own_within slot start zero slice behind (need ∷ needs) turns positive at some =
    let n : ℕ = min slice (need - behind * slice) in
    let rest : List Turn = round_from (start + 1) slice behind needs in
    let same : slot ≡ start = omega (arith, at) in
    subst (Within (0 * slice) slot) (sym (append_assoc (one_turn start n) rest turns))
    (subst (λ s. Within (0 * slice) slot (one_turn s n ++ (rest ++ turns))) same (own_first slot n (0 * slice) (rest ++ turns) (omega (arith, some, positive))))
own_within slot start (suc i) slice behind (need ∷ needs) turns positive at some =
    let n : ℕ = min slice (need - behind * slice) in
    let rest : List Turn = round_from (start + 1) slice behind needs in
    subst (Within (suc i * slice) slot) (sym (append_assoc (one_turn start n) rest turns))
    (within_less (n + i * slice) (suc i * slice) (before_next slot (one_turn start n ++ (rest ++ turns))) (omega arith)
    (other_first slot start n (i * slice) (rest ++ turns) (λ same. omega (arith, same, at)) (own_within slot (start + 1) i slice behind needs turns positive (omega (arith, at)) some)))

own_none : (slot start i slice behind : ℕ) (needs : List ℕ) (turns : List Turn) → start + i ≡ slot → slice_index needs i - behind * slice ≡ 0
    → before_next slot turns ≡ None → before_next slot (round_from start slice behind needs ++ turns) ≡ None
own_none slot start i slice behind [] turns at done none = none
own_none slot start zero slice behind (need ∷ needs) turns at done none =
    let nothing : min slice (need - behind * slice) ≡ 0 = omega (arith, done) in
    ap (λ n. before_next slot ((one_turn start n ++ round_from (start + 1) slice behind needs) ++ turns)) nothing
    ∙ above_none slot (start + 1) slice behind needs turns (omega (arith, at)) none
own_none slot start (suc i) slice behind (need ∷ needs) turns at done none =
    let n : ℕ = min slice (need - behind * slice) in
    let rest : List Turn = round_from (start + 1) slice behind needs in
    ap (before_next slot) (append_assoc (one_turn start n) rest turns)
    ∙ none_first slot start n (rest ++ turns) (λ same. omega (arith, same, at)) (own_none slot (start + 1) i slice behind needs turns (omega (arith, at)) done none)

own_waits : (most slot start i k first slice behind : ℕ) (needs : List ℕ) (turns : List Turn) → start + i ≡ slot → i + k + 1 ≡ length needs → k * slice + first ≤ most
    → Within first slot turns → WaitsAtMost most slot turns → WaitsAtMost most slot (round_from start slice behind needs ++ turns)
own_waits most slot start i k first slice behind [] turns at there le within waits = absurd (omega (arith, there))
own_waits most slot start zero k first slice behind (need ∷ needs) turns at there le within waits =
    let n : ℕ = min slice (need - behind * slice) in
    let rest : List Turn = round_from (start + 1) slice behind needs in
    let same : slot ≡ start = omega (arith, at) in
    let others : length needs ≡ k = omega (arith, there) in
    let less : length needs * slice + first ≤ most = subst (λ m. m * slice + first ≤ most) (sym others) le in
    subst (WaitsAtMost most slot) (sym (append_assoc (one_turn start n) rest turns))
    (subst (λ s. WaitsAtMost most slot (one_turn s n ++ (rest ++ turns))) same
    (waits_own most slot n (rest ++ turns)
    (within_less (length needs * slice + first) most (before_next slot (rest ++ turns)) less (above_within slot (start + 1) slice behind first needs turns (omega (arith, at)) within))
    (others_wait most slot (start + 1) slice behind needs turns (λ other from below same. omega (arith, same, from, at)) waits)))
own_waits most slot start (suc i) k first slice behind (need ∷ needs) turns at there le within waits =
    let n : ℕ = min slice (need - behind * slice) in
    let rest : List Turn = round_from (start + 1) slice behind needs in
    subst (WaitsAtMost most slot) (sym (append_assoc (one_turn start n) rest turns))
    (waits_first most slot start n (rest ++ turns) (λ same. omega (arith, same, at))
    (own_waits most slot (start + 1) i k first slice behind needs turns (omega (arith, at)) (omega (arith, there)) le within waits))

-- ── all rounds ──

rounds_none : (n slot slice behind : ℕ) (needs : List ℕ) → slice_index needs slot - behind * slice ≡ 0 → before_next slot (rounds n slice behind needs) ≡ None
rounds_none zero slot slice behind needs done = refl
rounds_none (suc n) slot slice behind needs done =
    own_none slot 0 slot slice behind needs (rounds n slice (behind + 1) needs) (omega arith) done (rounds_none n slot slice (behind + 1) needs (omega (arith, done)))

rounds_within : (n slot slice behind : ℕ) (needs : List ℕ) → 1 ≤ slice → Within (slot * slice) slot (rounds n slice behind needs)
rounds_within zero slot slice behind needs positive = tt
rounds_within (suc n) slot slice behind needs positive = by (slice_index needs slot - behind * slice) refl
  where
    by : (left : ℕ) → slice_index needs slot - behind * slice ≡ left → Within (slot * slice) slot (rounds (suc n) slice behind needs)
    by zero is = subst (λ o. IfSome o (λ steps. steps ≤ slot * slice)) (sym (rounds_none (suc n) slot slice behind needs is)) tt
    by (suc left) is = own_within slot 0 slot slice behind needs (rounds n slice (behind + 1) needs) positive (omega arith) (omega (arith, is))

rounds_wait : (n slot slice behind k : ℕ) (needs : List ℕ) → 1 ≤ slice → slot + k + 1 ≡ length needs → WaitsAtMost (k * slice + slot * slice) slot (rounds n slice behind needs)
rounds_wait zero slot slice behind k needs positive there = tt
rounds_wait (suc n) slot slice behind k needs positive there =
    own_waits (k * slice + slot * slice) slot 0 slot k (slot * slice) slice behind needs (rounds n slice (behind + 1) needs) (omega arith) there (omega arith)
    (rounds_within n slot slice (behind + 1) needs positive) (rounds_wait n slot slice (behind + 1) k needs positive there)

-- a slot that has no part has no turn
rounds_beyond : (n most slot slice behind : ℕ) (needs : List ℕ) → length needs ≤ slot → WaitsAtMost most slot (rounds n slice behind needs)
rounds_beyond zero most slot slice behind needs beyond = tt
rounds_beyond (suc n) most slot slice behind needs beyond =
    others_wait most slot 0 slice behind needs (rounds n slice (behind + 1) needs) (λ other from below same. omega (arith, same, below, beyond)) (rounds_beyond n most slot slice (behind + 1) needs beyond)

pub waits_in_turns : (slice slot : ℕ) (needs : List ℕ) → 1 ≤ slice → WaitsAtMost ((length needs - 1) * slice) slot (turns_of slice needs)
waits_in_turns slice slot needs positive = by (nat_le (length needs) slot) refl
  where
    by : (b : Bool) → nat_le (length needs) slot ≡ b → WaitsAtMost ((length needs - 1) * slice) slot (turns_of slice needs)
    by true beyond = rounds_beyond (sum needs) ((length needs - 1) * slice) slot slice 0 needs (leb-true (length needs) slot beyond)
    by false here =
        let lt : slot < length needs = leb-false (length needs) slot here in
        let k : ℕ = length needs - 1 - slot in
        let there : slot + k + 1 ≡ length needs = omega (arith, lt) in
        let others : k + slot ≡ length needs - 1 = omega (arith, lt) in
        let all : k * slice + slot * slice ≡ (length needs - 1) * slice = (let sum_of : k * slice + slot * slice ≡ (k + slot) * slice = omega arith in sum_of) ∙ ap (λ m. m * slice) others in
        subst (λ most. WaitsAtMost most slot (turns_of slice needs)) all (rounds_wait (sum needs) slot slice 0 k needs positive there)
