-- A round, slot by slot: what holds when the parts below a slot have had their turn. `done` is what the stage makes of a part, `needs` how many
-- steps that takes.
use Rattle.std.proofs.Common.{◌≡◌, ◌+◌, ◌-◌, ◌*◌, ◌≤◌, ◌<◌, ◌++◌, ◌||◌, ℕ, Bool, true, false, List, length, map, take, drop, get_or, set, refl, sym, ap, ◌∙◌, arith, append_assoc}
use Rattle.std.specs.Prelude.{min, sum_by}
use Rattle.std.proofs.Math.Seq.{map-set_same}
use Rattle.std.proofs.lemmas.List.{map-set, get_or-map, length-map, drop_more, drop-set-lt, get_or_default}
use Rattle.std.proofs.lemmas.List.Edits.{map_over_more}
use Rattle.std.proofs.lemmas.List.Sums.{sum_by-set}
use Rattle.tk_app.specs.declared.turns.Turn.{Turn}
use Rattle.tk_app.specs.Rounds.{one_turn, round_from}
use Rattle.tk_app.proofs.Rounds.{after_round}

module _ {P : Type 0} (done : P → P) (needs : P → ℕ) where
  -- the parts below a slot have had their turn: `parts`, `turns` and `more` now, of `parts0` and `turns0` when the round began
  pub record Reached (slice : ℕ) (slot : ℕ) (parts0 parts : List P) (turns0 turns : List Turn) (more : Bool) : Type 0 where
    pub same : map done parts ≡ map done parts0
    pub left : map needs parts ≡ after_round slice (take slot (map needs parts0)) ++ drop slot (map needs parts0)
    pub told : turns ++ round_from slot slice 0 (drop slot (map needs parts)) ≡ turns0 ++ round_from 0 slice 0 (map needs parts0)
    pub last : more ≡ false → parts ≡ map done (take slot parts0) ++ drop slot parts0
    pub most : sum_by needs parts ≤ sum_by needs parts0
    pub falls : more ≡ true → sum_by needs parts < sum_by needs parts0

  -- what a turn makes of a part
  pub record TookTurn (slice slot : ℕ) (old new : P) (turns_old turns_new : List Turn) (again : Bool) : Type 0 where
    pub same : done new ≡ done old
    pub left : needs new ≡ needs old - slice
    pub told : turns_new ≡ turns_old ++ one_turn slot (min slice (needs old))
    pub last : again ≡ false → new ≡ done old
    pub more : again ≡ true → slice ≤ needs old

  pub reached_more : (slice i : ℕ) (parts0 parts : List P) (turns0 turns turns' : List Turn) (more again : Bool) (d new : P)
      → 1 ≤ slice → i < length parts → length parts ≡ length parts0
      → Reached slice i parts0 parts turns0 turns more
      → TookTurn slice i (get_or parts i d) new turns turns' again
      → Reached slice (i + 1) parts0 (set parts i new) turns0 turns' (more || again)
  reached_more slice i parts0 parts turns0 turns turns' more again d new positive lt len reached turn =
      let old : P = get_or parts i d in
      let ns : List ℕ = map needs parts in
      let ns0 : List ℕ = map needs parts0 in
      let lt_ns : i < length ns = omega (arith, length-map parts needs, lt) in
      let lt_ns0 : i < length ns0 = omega (arith, length-map parts0 needs, lt, len) in
      let here : get_or ns i 0 ≡ needs old = get_or-map needs parts i d 0 lt in
      let here' : needs old ≡ get_or ns i (needs old) = sym (get_or-map needs parts i d (needs old) lt) in
      let sums : sum_by needs (set parts i new) + needs old ≡ sum_by needs parts + needs new = sum_by-set needs parts i new d lt in
      let all : needs old - 0 * slice ≡ needs old = omega arith in
      record {
        same = map-set_same done parts i new d turn.same ∙ reached.same;
        left = map-set needs parts i new ∙ ap (set ns i) turn.left ∙ map_over_more (λ n. n - slice) ns0 ns i (needs old) lt_ns0 reached.left here';
        told =
            let later : drop (i + 1) (map needs (set parts i new)) ≡ drop (i + 1) ns = ap (drop (i + 1)) (map-set needs parts i new) ∙ drop-set-lt (i + 1) ns i (needs new) (omega arith) in
            let first : round_from i slice 0 (drop i ns) ≡ one_turn i (min slice (needs old)) ++ round_from (i + 1) slice 0 (drop (i + 1) ns) =
            ap (round_from i slice 0) (drop_more ns i 0 lt_ns) ∙ ap (λ n. one_turn i (min slice (n - 0 * slice)) ++ round_from (i + 1) slice 0 (drop (i + 1) ns)) here
            ∙ ap (λ n. one_turn i (min slice n) ++ round_from (i + 1) slice 0 (drop (i + 1) ns)) all in
            ap (λ ts. ts ++ round_from (i + 1) slice 0 (drop (i + 1) (map needs (set parts i new)))) turn.told
            ∙ ap (λ xs. (turns ++ one_turn i (min slice (needs old))) ++ round_from (i + 1) slice 0 xs) later
            ∙ append_assoc turns (one_turn i (min slice (needs old))) (round_from (i + 1) slice 0 (drop (i + 1) ns))
            ∙ ap (λ xs. turns ++ xs) (sym first)
            ∙ reached.told;
        last = lasts more again refl refl;
        most = omega (arith, sums, turn.left, reached.most);
        falls = less more again refl refl;
      }
    where
      lasts : (m a : Bool) → m ≡ more → a ≡ again → (m || a) ≡ false → set parts i new ≡ map done (take (i + 1) parts0) ++ drop (i + 1) parts0
      lasts true a em ea stopped = cc
      lasts false true em ea stopped = cc
      lasts false false em ea stopped =
          ap (set parts i) (turn.last (sym ea)) ∙ map_over_more done parts0 parts i (get_or parts i d) (omega (arith, lt, len)) (reached.last (sym em)) (get_or_default parts i d (get_or parts i d) lt)

      less : (m a : Bool) → m ≡ more → a ≡ again → (m || a) ≡ true → sum_by needs (set parts i new) < sum_by needs parts0
      less true a em ea goes = omega (arith, sum_by-set needs parts i new d lt, turn.left, reached.falls (sym em))
      less false true em ea goes = omega (arith, sum_by-set needs parts i new d lt, turn.left, reached.most, turn.more (sym ea), positive)
      less false false em ea goes = cc
