-- What is of the other slots, slot by slot.
use Rattle.std.proofs.Common.{◌≡◌, ◌≢◌, ◌+◌, ◌≤◌, ◌<◌, ℕ, zero, suc, Bool, true, false, cond, List, [], ◌∷◌, map, refl, sym, ap, ◌∙◌, arith}
use Rattle.std.specs.Prelude.{filter, not, ◌==◌, nat_eq}
use Rattle.std.specs.Borrow.{GName}
use Rattle.std.specs.List.{range_with_len}
use Rattle.std.proofs.lemmas.Bool.{eqb-true, eqb-false}
use Rattle.tk_dispatch.specs.Queue.{Held, LeavesOthers as LeavesQueue}
use Rattle.tk_panel.specs.declared.tables.Tables.{Tables}
use Rattle.tk_panel.specs.Others.{left_of, others_of}
use Rattle.tk_panel.specs.Shared.{LeavesOthers, panel_of}

module _ {P : Type 0} (new old : ℕ → P) (slot : ℕ) where
  abbrev rest : ℕ → ℕ → List ℕ
  rest a n = filter (λ other. not (other == slot)) (range_with_len a n)

  same_at : (n a k : ℕ) → map new (rest a n) ≡ map old (rest a n) → a ≤ k → k < a + n → k ≢ slot → new k ≡ old k
  same_at zero a k same from to differ = absurd (omega (arith, from, to))
  same_at (suc n) a k same from to differ = by (nat_eq a slot) refl same (λ later less. same_at n (a + 1) k later less (omega (arith, to)) differ)
    where
      by_place : (b : Bool) → nat_eq a k ≡ b → new a ≡ old a → (a + 1 ≤ k → new k ≡ old k) → new k ≡ old k
      by_place true is here later = let same_place : a ≡ k = eqb-true a k is in ap new (sym same_place) ∙ here ∙ ap old same_place
      by_place false is here later = later (omega (arith, from, eqb-false a k is))

      by : (b : Bool) → nat_eq a slot ≡ b → map new (cond (not b) (a ∷ rest (a + 1) n) (rest (a + 1) n)) ≡ map old (cond (not b) (a ∷ rest (a + 1) n) (rest (a + 1) n))
          → (map new (rest (a + 1) n) ≡ map old (rest (a + 1) n) → a + 1 ≤ k → new k ≡ old k) → new k ≡ old k
      by true is all later = let not_here : a ≡ slot = eqb-true a slot is in later all (omega (arith, from, λ (e : a ≡ k). differ (sym e ∙ not_here)))
      by false is all later =
          let here : new a ≡ old a = cc in
          let others : map new (rest (a + 1) n) ≡ map old (rest (a + 1) n) = cc in
          by_place (nat_eq a k) refl here (later others)

  kept_at : ((k : ℕ) → k ≢ slot → new k ≡ old k) → (ks : List ℕ) → map new (filter (λ other. not (other == slot)) ks) ≡ map old (filter (λ other. not (other == slot)) ks)
  kept_at h [] = refl
  kept_at h (a ∷ ks) = by (nat_eq a slot) (filter (λ other. not (other == slot)) ks) refl (kept_at h ks)
    where
      by : (b : Bool) (more : List ℕ) → nat_eq a slot ≡ b → map new more ≡ map old more → map new (cond (not b) (a ∷ more) more) ≡ map old (cond (not b) (a ∷ more) more)
      by true more is later = later
      by false more is later = ap (λ x. x ∷ map new more) (h a (eqb-false a slot is)) ∙ ap (λ xs. old a ∷ xs) later

-- where the others are as they were, each of them is
pub other_same : (slot : ℕ) (old new : Tables) → others_of slot new ≡ others_of slot old → (other : ℕ) → other < 16 → other ≢ slot → panel_of other new ≡ panel_of other old
unfolding others_of
other_same slot old new same other lt differ =
    same_at (λ k. panel_of k new) (λ k. panel_of k old) slot 16 0 other same (omega arith) (omega (arith, lt)) differ

-- what the tables of all leave to each of the others is left to all
pub others_same : (slot : ℕ) (old new : Tables) → LeavesOthers slot old new → others_of slot new ≡ others_of slot old
unfolding others_of
others_same slot old new leaves =
    kept_at (λ k. panel_of k new) (λ k. panel_of k old) slot
    (λ k differ. rw (leaves.clock, leaves.screen k differ, leaves.bindings k differ, leaves.virtuals k differ, leaves.histories k differ, leaves.queue k differ, leaves.inputs k differ, leaves.timers k differ, leaves.lines k differ) refl) (range_with_len 0 16)

-- what a call leaves alone
pub left_same : (slot : ℕ) (name : GName) (old new : Tables) → LeavesOthers slot old new → left_of slot name new ≡ left_of slot name old
left_same slot name old new leaves =
    ap (λ moment. record { slot = slot; name = name; moment = moment; others = others_of slot new }) leaves.clock
    ∙ ap (λ others. record { slot = slot; name = name; moment = old.clock; others = others }) (others_same slot old new leaves)

-- one call after another
pub others_then : (slot : ℕ) (first next last : Tables) → LeavesOthers slot first next → LeavesOthers slot next last → LeavesOthers slot first last
others_then slot first next last one other = record {
  clock = other.clock ∙ one.clock;
  screen = λ k differ. other.screen k differ ∙ one.screen k differ;
  bindings = λ k differ. other.bindings k differ ∙ one.bindings k differ;
  virtuals = λ k differ. other.virtuals k differ ∙ one.virtuals k differ;
  histories = λ k differ. other.histories k differ ∙ one.histories k differ;
  queue = λ k differ. other.queue k differ ∙ one.queue k differ;
  inputs = λ k differ. other.inputs k differ ∙ one.inputs k differ;
  timers = λ k differ. other.timers k differ ∙ one.timers k differ;
  lines = λ k differ. other.lines k differ ∙ one.lines k differ;
}

-- a call on the queue alone
pub others_queue : (slot : ℕ) (tables : Tables) (queue : Held) → LeavesQueue slot tables.queue queue → LeavesOthers slot tables (record tables { queue = queue })
others_queue slot tables queue leaves = record {
  clock = refl;
  screen = λ k differ. refl;
  bindings = λ k differ. refl;
  virtuals = λ k differ. refl;
  histories = λ k differ. refl;
  queue = leaves;
  inputs = λ k differ. refl;
  timers = λ k differ. refl;
  lines = λ k differ. refl;
}

-- What a loop over one application's tables carries on: what is left makes of its panel what all made of it at first, and the others stay.
abbrev pub Carries : {Own : Type 0} (own all : Own) (slot : ℕ) (old new : Tables) → Type 0
Carries own all slot old new = record { same : own ≡ all; others : LeavesOthers slot old new }
