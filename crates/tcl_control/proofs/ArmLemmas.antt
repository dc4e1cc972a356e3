-- The arms of `switch` in a list of patterns and bodies.
use Rattle.std.proofs.Common.{◌≡◌, ℕ, zero, suc, ◌+◌, ◌-◌, ◌<◌, ◌≤◌, Bool, true, false, nat_eq, if◌then◌else◌, List, [], ◌∷◌, length, drop, take, Option, Some, None, option_map, refl, ap, sym, ◌∙◌, arith, add-one}
use Rattle.std.proofs.lemmas.Bool.Decides.{nat_tests}
use Rattle.std.proofs.lemmas.List.{drop_all, length-drop}
use Rattle.std.specs.Prelude.{◌||◌, ◌&&◌, ◌==◌, bytes_eq, codes, slice_get}
use Rattle.tcl_commands.specs.Branches.{arms_of, branch_of}
use Rattle.tcl_control.specs.Arms.{paired}
use Rattle.tcl_control.specs.Choices.{arm_for, body_of, ends_open, is_dash, is_open, matches, takes}
use Rattle.tcl_control.specs.declared.choices.Matching.{Matching}
use Rattle.tcl_control.specs.declared.plan.Plan.{Plan}
use Rattle.tcl_control.specs.declared.plan.Plan.TheVariants.{Runs}

-- as many patterns as bodies
pub arms_paired : (k : ℕ) (items : List (List ℕ)) → length items ≡ k + k → arms_of items ≡ Some (paired items)
unfolding arms_of
arms_paired k [] e = refl
arms_paired k (pattern ∷ []) e = absurd (omega (arith, e))
arms_paired zero (pattern ∷ body ∷ items) e = absurd (omega (arith, e))
arms_paired (suc k) (pattern ∷ body ∷ items) e = ap (option_map (λ arms. branch_of pattern body ∷ arms)) (arms_paired k items (omega (arith, e)))

-- a pattern without a body
pub arms_odd : (k : ℕ) (items : List (List ℕ)) → length items ≡ k + k + 1 → arms_of items ≡ None
unfolding arms_of
arms_odd k [] e = absurd (omega (arith, e))
arms_odd k (pattern ∷ []) e = refl
arms_odd zero (pattern ∷ body ∷ items) e = absurd (omega (arith, e))
arms_odd (suc k) (pattern ∷ body ∷ items) e = ap (option_map (λ arms. branch_of pattern body ∷ arms)) (arms_odd k items (omega (arith, e)))

-- the item of a number, and those behind it
pub item_at : (items : List (List ℕ)) (i : ℕ) (item : List ℕ) → drop i (take (i + 1) items) ≡ item ∷ [] → drop i items ≡ item ∷ drop (suc i) items
item_at items i item e = by items i (ap (λ n. drop i (take n items)) (sym (add-one i)) ∙ e)
  where
    by : (items : List (List ℕ)) (i : ℕ) → drop i (take (suc i) items) ≡ item ∷ [] → drop i items ≡ item ∷ drop (suc i) items
    by [] zero e = absurd (cc)
    by [] (suc i) e = absurd (cc)
    by (first ∷ items) zero e = let same : first ≡ item = cc in ap (λ f. f ∷ items) same
    by (first ∷ items) (suc i) e = by items i e

-- there is one
pub some_at : (items : List (List ℕ)) (i : ℕ) → i < length items → (item : List ℕ) × (drop i items ≡ item ∷ drop (suc i) items)
some_at [] i less = absurd (omega (arith, less))
some_at (first ∷ items) zero less = (first, refl)
some_at (first ∷ items) (suc i) less = some_at items i (omega (arith, less))

-- how many arms there are
pub arms_count : (k : ℕ) (items : List (List ℕ)) → length items ≡ k + k → length (paired items) ≡ k
arms_count k [] e = omega (arith, e)
arms_count k (pattern ∷ []) e = absurd (omega (arith, e))
arms_count zero (pattern ∷ body ∷ items) e = absurd (omega (arith, e))
arms_count (suc k) (pattern ∷ body ∷ items) e = ap suc (arms_count k items (omega (arith, e)))

-- the last body
pub open_paired : (k : ℕ) (items : List (List ℕ)) (last : List ℕ) → length items ≡ k + k → 0 < k → drop (k + k - 1) items ≡ last ∷ [] → ends_open (paired items) ≡ is_dash last
open_paired k [] last e some at = absurd (omega (arith, e, some))
open_paired k (pattern ∷ []) last e some at = absurd (omega (arith, e))
open_paired zero (pattern ∷ body ∷ items) last e some at = absurd (omega (arith, some))
open_paired (suc k) (pattern ∷ body ∷ []) last e some at =
    let one : suc k + suc k - 1 ≡ 1 = omega (arith, e) in
    let there : drop 1 (pattern ∷ body ∷ []) ≡ last ∷ [] = ap (λ n. drop n (pattern ∷ body ∷ [])) (sym one) ∙ at in
    let same : body ≡ last = cc in
    ap is_dash same
open_paired (suc k) (pattern ∷ body ∷ other ∷ items) last e some at =
    let left : length (other ∷ items) ≡ k + k = omega (arith, e) in
    let more : 0 < k = omega (arith, left) in
    let place : suc k + suc k - 1 ≡ suc (suc (k + k - 1)) = omega (arith, more) in
    let there : drop (k + k - 1) (other ∷ items) ≡ last ∷ [] = ap (λ n. drop n (pattern ∷ body ∷ other ∷ items)) (sym place) ∙ at in
    let rest = open_paired k (other ∷ items) last left more there in
    let count : length (paired (other ∷ items)) ≡ k = arms_count k (other ∷ items) left in
    let index : length (paired (pattern ∷ body ∷ other ∷ items)) - 1 ≡ suc (length (paired (other ∷ items)) - 1) = omega (arith, count, more) in
    ap (λ n. is_open (slice_get (paired (pattern ∷ body ∷ other ∷ items)) n)) index ∙ rest

-- the item at the end
pub last_item : (items : List (List ℕ)) (i : ℕ) (item : List ℕ) → i + 1 ≡ length items → drop i (take (i + 1) items) ≡ item ∷ [] → drop i items ≡ item ∷ []
last_item items i item e at = item_at items i item at ∙ ap (λ rest. item ∷ rest) (drop_all (suc i) items (omega (arith, e)))

module _ (items : List (List ℕ)) (count arm : ℕ) (whole : length items ≡ count + count) (within : arm < count) where
  -- a pattern, its body, and those behind them
  pair_of_body : (body : List ℕ) → drop (arm + arm + 1) (take (arm + arm + 1 + 1) items) ≡ body ∷ [] → (test : List ℕ) × (drop (arm + arm) items ≡ test ∷ body ∷ drop (arm + 1 + (arm + 1)) items)
  pair_of_body body at =
      let first = some_at items (arm + arm) (omega (arith, whole, within)) in
      let second = item_at items (arm + arm + 1) body at in
      let one : suc (arm + arm) ≡ arm + arm + 1 = omega arith in
      let two : suc (arm + arm + 1) ≡ arm + 1 + (arm + 1) = omega arith in
      (first.0, first.1 ∙ ap (λ n. first.0 ∷ drop n items) one ∙ ap (λ rest. first.0 ∷ rest) (second ∙ ap (λ n. body ∷ drop n items) two))

  pair_of_test : (test : List ℕ) → drop (arm + arm) (take (arm + arm + 1) items) ≡ test ∷ [] → (body : List ℕ) × (drop (arm + arm) items ≡ test ∷ body ∷ drop (arm + 1 + (arm + 1)) items)
  pair_of_test test at =
      let first = item_at items (arm + arm) test at in
      let second = some_at items (suc (arm + arm)) (omega (arith, whole, within)) in
      let two : suc (suc (arm + arm)) ≡ arm + 1 + (arm + 1) = omega arith in
      (second.0, first ∙ ap (λ rest. test ∷ rest) (second.1 ∙ ap (λ n. second.0 ∷ drop n items) two))

  -- a body that stands for the one behind it
  pub body_passed : (body : List ℕ) → drop (arm + arm + 1) (take (arm + arm + 1 + 1) items) ≡ body ∷ [] → is_dash body ≡ true
      → body_of (paired (drop (arm + arm) items)) ≡ body_of (paired (drop (arm + 1 + (arm + 1)) items))
  body_passed body at dash =
      ap (λ rest. body_of (paired rest)) (pair_of_body body at).1
      ∙ ap (λ (b : Bool). if b then body_of (paired (drop (arm + 1 + (arm + 1)) items)) else Runs body) dash

  -- and one for itself
  pub body_taken : (body : List ℕ) → drop (arm + arm + 1) (take (arm + arm + 1 + 1) items) ≡ body ∷ [] → is_dash body ≡ false → body_of (paired (drop (arm + arm) items)) ≡ Runs body
  body_taken body at plain =
      ap (λ rest. body_of (paired rest)) (pair_of_body body at).1
      ∙ ap (λ (b : Bool). if b then body_of (paired (drop (arm + 1 + (arm + 1)) items)) else Runs body) plain

  same_test : (a b c : ℕ) → a + b ≡ c → nat_eq a 0 ≡ nat_eq b c
  same_test zero b c e = let same : nat_eq b c ≡ true = grind (arith, nat_tests, e) in sym same
  same_test (suc a) b c e =
      let other : nat_eq b c ≡ false = grind (arith, nat_tests, e) in
      let more : nat_eq (suc a) 0 ≡ false = grind (arith, nat_tests) in
      more ∙ sym other

  module _ (matching : Matching) (value test : List ℕ) (at : drop (arm + arm) (take (arm + arm + 1) items) ≡ test ∷ []) (taken : Bool)
      (is : taken ≡ (matches matching test value || ((arm + 1 == count) && bytes_eq test (codes "default")))) where
    pair : (body : List ℕ) × (drop (arm + arm) items ≡ test ∷ body ∷ drop (arm + 1 + (arm + 1)) items)
    pair = pair_of_test test at

    abbrev pub behind : List (List ℕ)
    behind = drop (arm + 1 + (arm + 1)) items

    takes_is : takes matching value (branch_of test pair.0) (paired behind) ≡ taken
    takes_is =
        let left : length behind ≡ (count - (arm + 1)) + (count - (arm + 1)) = omega (arith, length-drop (arm + 1 + (arm + 1)) items, whole, within) in
        let arms : length (paired behind) ≡ count - (arm + 1) = arms_count (count - (arm + 1)) behind left in
        let sum : length (paired behind) + (arm + 1) ≡ count = omega (arith, arms, within) in
        ap (λ (b : Bool). matches matching test value || (b && bytes_eq test (codes "default"))) (same_test (length (paired behind)) (arm + 1) count sum) ∙ sym is

    -- an arm that doesn't take a value
    pub arm_passed : taken ≡ false → arm_for matching value (paired (drop (arm + arm) items)) ≡ arm_for matching value (paired behind)
    arm_passed fails =
        ap (λ rest. arm_for matching value (paired rest)) pair.1
        ∙ ap (λ (b : Bool). if b then body_of (branch_of test pair.0 ∷ paired behind) else arm_for matching value (paired behind)) (takes_is ∙ fails)

    -- and one that does
    pub arm_taken : taken ≡ true → arm_for matching value (paired (drop (arm + arm) items)) ≡ body_of (paired (drop (arm + arm) items))
    arm_taken holds =
        ap (λ rest. arm_for matching value (paired rest)) pair.1
        ∙ ap (λ (b : Bool). if b then body_of (branch_of test pair.0 ∷ paired behind) else arm_for matching value (paired behind)) (takes_is ∙ holds)
        ∙ ap (λ rest. body_of (paired rest)) (sym pair.1)
