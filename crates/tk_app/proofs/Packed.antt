-- What `pack` and removals leave packed: each window in its parent, and once.
use Rattle.std.proofs.Common.{◌≡◌, ◌≢◌, ◌⊎◌, inl, inr, ℕ, zero, suc, ◌+◌, ◌<◌, ◌≤◌, Bool, true, false, cond, List, [], ◌∷◌, ◌++◌, length, not, Option, Some, None, Result, Ok, Err, refl, sym, ap, ◌∙◌, subst, arith}
use Rattle.std.specs.Prelude.{◌==◌, codes, drop, filter, insert, nat_lt, option_and_then, option_map, slice_get, take}
use Rattle.std.specs.Str.{bytes_eq}
use Rattle.std.proofs.lemmas.Bool.{cases_order, eq-eqb, eqb-true, lt-ltb, ltb-true, ne_eqb}
use Rattle.std.proofs.lemmas.List.{length-append}
use Rattle.std.proofs.lemmas.List.Elements.{filter-append}
use Rattle.tcl_text.specs.Answers.{◌>>=◌}
use Rattle.tcl_text.specs.Readings.{boolean_of}
use Rattle.tk_packer.specs.declared.packed.Packed.{Packed}
use Rattle.tk_packer.specs.Packs.{Packing, greater, lesser, master_of, packed_at, slaves_of, without}
use Rattle.tk_pack_commands.specs.declared.pack.PackQuestion.TheVariants.{Info, Slaves}
use Rattle.tk_pack_commands.specs.declared.settings.Beside.{Beside}
use Rattle.tk_pack_commands.specs.declared.settings.PackSetting.{PackSetting}
use Rattle.tk_pack_commands.specs.declared.targets.Found.{Found}
use Rattle.tk_pack_commands.specs.declared.targets.Target.{Target}
use Rattle.tk_pack_commands.specs.Options.{last_sibling, settings_in, with_settings}
use Rattle.tk_pack_commands.specs.Pack.{all_forgotten, configure_words, forgotten, forgotten_at, named_words, pack_words, packed_by, plan_in, propagate_words, propagation_in, propagation_set}
use Rattle.tk_pack_commands.specs.Places.{next_beside, packed_all, packed_one, place_beside, request_or_default}
use Rattle.tk_pack_commands.specs.Targets.{begins_path, found_of, found_or_error, in_master, in_parent, path_count, target_in, targets_in, window_in}
use Rattle.tk_tree.specs.declared.window.Window.{Window}
use Rattle.tk_tree.specs.Own.{IsSound, Tree, at_path, window_at}
use Rattle.tk_tree.specs.Window.{number_of}
use Rattle.tk_tree.proofs.Lists.{find_numbered, some_same}
use Rattle.tk_app.specs.InOrder.{ArePackedInParents, parent_of, times_packed}

-- ── how often a window is packed ──

module _ (n : ℕ) where
  abbrev times : List Packed → ℕ
  times packs = times_packed n packs

  -- one of them, or none
  abbrev one_time : Packed → ℕ
  one_time packed = cond (packed.number == n) 1 0

  times_first : (packed : Packed) (packs : List Packed) → times (packed ∷ packs) ≡ one_time packed + times packs
  times_first packed packs = by (packed.number == n)
    where
      by : (b : Bool) → length (cond b (packed ∷ filter (λ (p : Packed). p.number == n) packs) (filter (λ (p : Packed). p.number == n) packs)) ≡ cond b 1 0 + times packs
      by true = omega arith
      by false = omega arith

  times_both : (xs ys : List Packed) → times (xs ++ ys) ≡ times xs + times ys
  times_both xs ys =
      ap length (filter-append (λ (p : Packed). p.number == n) xs ys)
      ∙ length-append (filter (λ (p : Packed). p.number == n) xs) (filter (λ (p : Packed). p.number == n) ys)

  pub times_filter : (test : Packed → Bool) (xs : List Packed) → times (filter test xs) ≤ times xs
  times_filter test [] = omega arith
  times_filter test (x ∷ xs) = by (test x) (times_filter test xs) (times_first x xs) (times_first x (filter test xs))
    where
      by : (b : Bool) → times (filter test xs) ≤ times xs → times (x ∷ xs) ≡ one_time x + times xs → times (x ∷ filter test xs) ≡ one_time x + times (filter test xs)
          → times (cond b (x ∷ filter test xs) (filter test xs)) ≤ times (x ∷ xs)
      by true rest all kept = omega (arith, rest, all, kept)
      by false rest all kept = omega (arith, rest, all)

  times_insert : (xs : List Packed) (i : ℕ) (x : Packed) → times (insert xs i x) ≡ times xs + one_time x
  times_insert xs zero x = omega (arith, times_first x xs)
  times_insert [] (suc i) x = omega (arith, times_first x [])
  times_insert (y ∷ ys) (suc i) x = omega (arith, times_insert ys i x, times_first y ys, times_first y (insert ys i x))

  -- those of one master, and those before and behind
  abbrev IsParted : ℕ → List Packed → Type 0
  IsParted m xs = times (lesser master_of m xs) + (times (slaves_of m xs) + times (greater master_of m xs)) ≡ times xs

  times_thirds : (m : ℕ) (xs : List Packed) → IsParted m xs
  times_thirds m [] = omega arith
  times_thirds m (x ∷ xs) =
      by (cases_order x.master m) (times_thirds m xs) (times_first x xs) (times_first x (lesser master_of m xs)) (times_first x (slaves_of m xs)) (times_first x (greater master_of m xs))
    where
      not_less : (a b : ℕ) → b ≤ a → nat_lt a b ≡ false
      not_less a b le = test (nat_lt a b) refl
        where
          test : (t : Bool) → nat_lt a b ≡ t → nat_lt a b ≡ false
          test true is = absurd (let lt = ltb-true a b is in omega (arith, lt, le))
          test false is = is

      by : (x.master ≡ m) ⊎ ((x.master < m) ⊎ (m < x.master)) → IsParted m xs → times (x ∷ xs) ≡ one_time x + times xs
          → times (x ∷ lesser master_of m xs) ≡ one_time x + times (lesser master_of m xs) → times (x ∷ slaves_of m xs) ≡ one_time x + times (slaves_of m xs)
          → times (x ∷ greater master_of m xs) ≡ one_time x + times (greater master_of m xs) → IsParted m (x ∷ xs)
      by (inl is) rest all one two three =
          rw (not_less x.master m (omega (arith, is)), eq-eqb x.master m is, not_less m x.master (omega (arith, is))) (omega (arith, rest, all, two))
      by (inr (inl lt)) rest all one two three =
          rw (lt-ltb x.master m lt, ne_eqb x.master m (λ is. omega (arith, is, lt)), not_less m x.master (omega (arith, lt))) (omega (arith, rest, all, one))
      by (inr (inr lt)) rest all one two three =
          rw (not_less x.master m (omega (arith, lt)), ne_eqb x.master m (λ is. omega (arith, is, lt)), lt-ltb m x.master lt) (omega (arith, rest, all, three))

  -- it is packed no more once it is taken out
  times_without : (xs : List Packed) → times (without n xs) ≡ 0
  times_without [] = refl
  times_without (x ∷ xs) = by (x.number == n) refl (times_without xs)
    where
      by : (b : Bool) → (x.number == n) ≡ b → times (without n xs) ≡ 0 → times (cond (not b) (x ∷ without n xs) (without n xs)) ≡ 0
      by true is rest = rest
      by false is rest = rw is rest

  -- and at most once when it is packed again
  module _ (place : ℕ) (new : Packed) (packs : List Packed) where
    abbrev left : List Packed
    left = without new.number packs

    abbrev slaves : List Packed
    slaves = slaves_of new.master left

    abbrev more : List Packed
    more = greater master_of new.master left

    put_is : times (packed_at place new packs) ≡ times left + one_time new
    put_is =
        (let one = times_both (lesser master_of new.master left) (insert slaves place new ++ more) in
        let two = times_both (insert slaves place new) more in
        let three = times_insert slaves place new in
        let four = times_thirds new.master left in
        omega (arith, one, two, three, four))

    times_put : times packs ≤ 1 → times (packed_at place new packs) ≤ 1
    times_put few = by (new.number == n) refl
      where
        by : (b : Bool) → (new.number == n) ≡ b → times (packed_at place new packs) ≤ 1
        by true is =
            (let whole = put_is in
            let none : times left ≡ 0 = ap (λ k. times (without k packs)) (eqb-true new.number n is) ∙ times_without packs in
            let one : one_time new ≡ 1 = ap (λ (t : Bool). cond t 1 0) is in
            omega (arith, whole, none, one))
        by false is =
            (let whole = put_is in
            let fewer : times left ≤ times packs = times_filter (λ (p : Packed). not (p.number == new.number)) packs in
            let none : one_time new ≡ 0 = ap (λ (t : Bool). cond t 1 0) is in
            omega (arith, whole, few, fewer, none))

  -- what is packed once has one place
  is_once : (y x : Packed) → Some y ≡ Some x → x.number ≡ n → one_time y ≡ 1
  is_once y x at is = ap (λ (t : Bool). cond t 1 0) (eq-eqb y.number n (ap (λ (p : Packed). p.number) (some_same y x at) ∙ is))

  there_is : (xs : List Packed) (k : ℕ) (x : Packed) → slice_get xs k ≡ Some x → x.number ≡ n → 1 ≤ times xs
  there_is [] k x at is = absurd (cc)
  there_is (y ∷ xs) zero x at is = (let first = times_first y xs in let one = is_once y x at is in omega (arith, first, one))
  there_is (y ∷ xs) (suc k) x at is = (let rest = there_is xs k x at is in let first = times_first y xs in omega (arith, rest, first))

  -- the first, and one of the others
  not_twice : (z x y : Packed) (xs : List Packed) (k : ℕ) → times (z ∷ xs) ≤ 1 → Some z ≡ Some x → x.number ≡ n → slice_get xs k ≡ Some y → y.number ≡ n → ⊥
  not_twice z x y xs k few at is at_k its =
      (let rest = there_is xs k y at_k its in let one = is_once z x at is in let all = times_first z xs in omega (arith, few, rest, one, all))

  pub pack_place : (xs : List Packed) → times xs ≤ 1 → (k l : ℕ) (x y : Packed) → slice_get xs k ≡ Some x → slice_get xs l ≡ Some y → x.number ≡ n → y.number ≡ n → k ≡ l
  pack_place [] few k l x y at_k at_l is its = absurd (cc)
  pack_place (z ∷ xs) few zero zero x y at_k at_l is its = refl
  pack_place (z ∷ xs) few zero (suc l) x y at_k at_l is its = absurd (not_twice z x y xs l few at_k is at_l its)
  pack_place (z ∷ xs) few (suc k) zero x y at_k at_l is its = absurd (not_twice z y x xs k few at_l its at_k is)
  pack_place (z ∷ xs) few (suc k) (suc l) x y at_k at_l is its =
      ap suc (pack_place xs (let all = times_first z xs in omega (arith, few, all)) k l x y at_k at_l is its)

-- ── in parents ──

module _ (tree : Tree) where
  -- what is packed is packed in parents, each window once
  pub record IsFine (packing : Packing) : Type 0 where
    pub parents : ArePackedInParents tree packing.packs
    pub once : (number : ℕ) → times_packed number packing.packs ≤ 1

  parents_both : (xs ys : List Packed) → ArePackedInParents tree xs → ArePackedInParents tree ys → ArePackedInParents tree (xs ++ ys)
  parents_both [] ys one other = other
  parents_both (x ∷ xs) ys one other = (one.0, parents_both xs ys one.1 other)

  pub parents_filter : (test : Packed → Bool) (xs : List Packed) → ArePackedInParents tree xs → ArePackedInParents tree (filter test xs)
  parents_filter test [] held = tt
  parents_filter test (x ∷ xs) held = by (test x) (parents_filter test xs held.1)
    where
      by : (b : Bool) → ArePackedInParents tree (filter test xs) → ArePackedInParents tree (cond b (x ∷ filter test xs) (filter test xs))
      by true rest = (held.0, rest)
      by false rest = rest

  parents_insert : (xs : List Packed) (i : ℕ) (x : Packed) → parent_of x.number tree ≡ Some x.master → ArePackedInParents tree xs → ArePackedInParents tree (insert xs i x)
  parents_insert xs zero x is held = (is, held)
  parents_insert [] (suc i) x is held = (is, tt)
  parents_insert (y ∷ ys) (suc i) x is held = (held.0, parents_insert ys i x is held.1)

  parents_put : (place : ℕ) (new : Packed) (packs : List Packed) → parent_of new.number tree ≡ Some new.master → ArePackedInParents tree packs
      → ArePackedInParents tree (packed_at place new packs)
  parents_put place new packs is held =
      let left : List Packed = without new.number packs in
      let kept : ArePackedInParents tree left = parents_filter (λ (p : Packed). not (p.number == new.number)) packs held in
      let slaves : List Packed = slaves_of new.master left in
      let less : List Packed = lesser master_of new.master left in
      let more : List Packed = greater master_of new.master left in
      parents_both less (insert slaves place new ++ more) (parents_filter (λ (p : Packed). nat_lt (master_of p) new.master) left kept)
      (parents_both (insert slaves place new) more
      (parents_insert slaves place new is (parents_filter (λ (p : Packed). p.master == new.master) left kept))
      (parents_filter (λ (p : Packed). nat_lt new.master (master_of p)) left kept))

  -- the parent of a slave is its master
  pub slave_parent : (m : ℕ) (packs : List Packed) → ArePackedInParents tree packs → (k : ℕ) (x : Packed) → slice_get (slaves_of m packs) k ≡ Some x → parent_of x.number tree ≡ Some m
  slave_parent m [] held k x at = absurd (cc)
  slave_parent m (p ∷ packs) held k x at = by (p.master == m) refl k at (slave_parent m packs held.1)
    where
      by : (b : Bool) → (p.master == m) ≡ b → (k : ℕ) → slice_get (cond b (p ∷ slaves_of m packs) (slaves_of m packs)) k ≡ Some x
          → ((k : ℕ) (x : Packed) → slice_get (slaves_of m packs) k ≡ Some x → parent_of x.number tree ≡ Some m) → parent_of x.number tree ≡ Some m
      by true is zero here rest =
          ap (λ (y : Packed). parent_of y.number tree) (sym (some_same p x here)) ∙ held.0 ∙ ap (λ j. Some j) (eqb-true p.master m is)
      by true is (suc k) there rest = rest k x there
      by false is k there rest = rest k x there

-- ── `pack` ──

module _ (tree : Tree) (sound : IsSound tree) where
  -- the windows to be packed are there, each with its parent
  abbrev IsTarget : Result Target (List ℕ) → Type 0
  IsTarget (Ok target) = parent_of target.number tree ≡ Some target.master
  IsTarget (Err text) = Unit {0}

  abbrev AllTargets : List Target → Type 0
  AllTargets [] = Unit {0}
  AllTargets (target ∷ targets) = (parent_of target.number tree ≡ Some target.master) × AllTargets targets

  abbrev AreTargets : Result (List Target) (List ℕ) → Type 0
  AreTargets (Ok targets) = AllTargets targets
  AreTargets (Err text) = Unit {0}

  target_is : (path : List ℕ) → IsTarget (target_in path tree)
  unfolding target_in window_in
  target_is path = by (at_path path tree) refl
    where
      of_parent : (window : Window) (parent : Option ℕ) → parent_of window.number tree ≡ parent → IsTarget (in_master window.number parent)
      of_parent window None is = tt
      of_parent window (Some master) is = is

      by : (found : Option Window) → at_path path tree ≡ found → IsTarget (found_or_error path (option_map found_of found) >>= in_parent)
      by None is = tt
      by (Some window) is =
          of_parent window window.parent
          (ap (λ (o : Option Window). option_and_then (λ (w : Window). w.parent) o)
          (find_numbered number_of (λ (w : Window). bytes_eq path w.path) window tree.windows sound.rising is))

  targets_are : (paths : List (List ℕ)) → AreTargets (targets_in paths tree)
  targets_are [] = tt
  targets_are (path ∷ paths) = by (target_in path tree) (targets_in paths tree) (target_is path) (targets_are paths)
    where
      by : (one : Result Target (List ℕ)) (rest : Result (List Target) (List ℕ)) → IsTarget one → AreTargets rest
          → AreTargets (one >>= (λ (first : Target). rest >>= (λ (others : List Target). Ok (first ∷ others))))
      by (Err text) rest is are = tt
      by (Ok target) (Err text) is are = tt
      by (Ok target) (Ok targets) is are = (is, are)

  one_fine : (settings : List PackSetting) (beside : Option Beside) (target : Target) (packing : Packing) → parent_of target.number tree ≡ Some target.master → IsFine tree packing
      → IsFine tree (packed_one settings beside target packing)
  unfolding packed_one
  one_fine settings beside target packing is fine =
      let place : ℕ = place_beside beside target.number (slaves_of target.master packing.packs) in
      let new : Packed = record { master = target.master; number = target.number; request = with_settings settings (request_or_default target.number packing.packs) } in
      record { parents = parents_put tree place new packing.packs is fine.parents; once = λ n. times_put n place new packing.packs (fine.once n) }

  all_fine : (settings : List PackSetting) (targets : List Target) (beside : Option Beside) (packing : Packing) → AllTargets targets → IsFine tree packing
      → IsFine tree (packed_all settings beside targets packing)
  all_fine settings [] beside packing are fine = fine
  all_fine settings (target ∷ targets) beside packing are fine =
      all_fine settings targets (next_beside target beside) (packed_one settings beside target packing) are.1 (one_fine settings beside target packing are.0 fine)

  configure_fine : (words : List (List ℕ)) (packing : Packing) → IsFine tree packing → IsFine tree (configure_words words tree packing).0
  unfolding plan_in
  configure_fine [] packing fine = fine
  configure_fine (word ∷ words) packing fine = by (targets_in (take (path_count (word ∷ words)) (word ∷ words)) tree) (targets_are (take (path_count (word ∷ words)) (word ∷ words)))
    where
      planned : (targets : List Target) → AllTargets targets → (settings : Result (List PackSetting) (List ℕ))
          → IsFine tree (packed_by (settings >>= (λ (all : List PackSetting). Ok (record { targets = targets; settings = all }))) packing).0
      planned targets are (Err text) = fine
      planned targets are (Ok settings) = all_fine settings targets (last_sibling None settings) packing are fine

      by : (given : Result (List Target) (List ℕ)) → AreTargets given
          → IsFine tree (packed_by (given >>= (λ (targets : List Target). settings_in (drop (path_count (word ∷ words)) (word ∷ words)) targets tree packing >>= (λ (all : List PackSetting). Ok (record { targets = targets; settings = all })))) packing).0
      by (Err text) are = fine
      by (Ok targets) are = planned targets are (settings_in (drop (path_count (word ∷ words)) (word ∷ words)) targets tree packing)

  forgotten_fine : (found : Option Found) (packing : Packing) → IsFine tree packing → IsFine tree (forgotten found packing)
  forgotten_fine None packing fine = fine
  forgotten_fine (Some found) packing fine =
      let kept : Packed → Bool = λ (p : Packed). not (p.number == found.number) in
      record {
        parents = parents_filter tree kept packing.packs fine.parents;
        once = λ n. (let fewer = times_filter n kept packing.packs in let few = fine.once n in omega (arith, fewer, few));
      }

  forget_fine : (paths : List (List ℕ)) (packing : Packing) → IsFine tree packing → IsFine tree (all_forgotten paths tree packing)
  forget_fine [] packing fine = fine
  forget_fine (path ∷ paths) packing fine =
      forget_fine paths (forgotten_at path tree packing) (forgotten_fine (option_map found_of (at_path path tree)) packing fine)

  propagated_fine : (wanted : Result (ℕ × Bool) (List ℕ)) (packing : Packing) → IsFine tree packing → IsFine tree (propagation_set wanted packing).0
  propagated_fine (Err text) packing fine = fine
  propagated_fine (Ok wanted) packing fine = record { parents = fine.parents; once = fine.once }

  propagate_fine : (words : List (List ℕ)) (packing : Packing) → IsFine tree packing → IsFine tree (propagate_words words tree packing).0
  propagate_fine [] packing fine = fine
  propagate_fine (path ∷ []) packing fine = fine
  propagate_fine (path ∷ word ∷ []) packing fine = propagated_fine (propagation_in path word tree) packing fine
  propagate_fine (path ∷ word ∷ another ∷ words) packing fine = fine

  named_fine : (name : List ℕ) (words : List (List ℕ)) (packing : Packing) → IsFine tree packing → IsFine tree (named_words name words tree packing).0
  unfolding named_words
  named_fine name words packing fine =
      by (bytes_eq name (codes "configure")) (bytes_eq name (codes "forget")) (bytes_eq name (codes "info")) (bytes_eq name (codes "propagate")) (bytes_eq name (codes "slaves")) refl refl refl refl refl
    where
      by : (a b c d e : Bool) → bytes_eq name (codes "configure") ≡ a → bytes_eq name (codes "forget") ≡ b → bytes_eq name (codes "info") ≡ c → bytes_eq name (codes "propagate") ≡ d
          → bytes_eq name (codes "slaves") ≡ e → IsFine tree (named_words name words tree packing).0
      by true b c d e is_a is_b is_c is_d is_e = rw is_a (configure_fine words packing fine)
      by false true c d e is_a is_b is_c is_d is_e = rw (is_a, is_b) (forget_fine words packing fine)
      by false false true d e is_a is_b is_c is_d is_e = rw (is_a, is_b, is_c) fine
      by false false false true e is_a is_b is_c is_d is_e = rw (is_a, is_b, is_c, is_d) (propagate_fine words packing fine)
      by false false false false true is_a is_b is_c is_d is_e = rw (is_a, is_b, is_c, is_d, is_e) fine
      by false false false false false is_a is_b is_c is_d is_e = rw (is_a, is_b, is_c, is_d, is_e) fine

  pub pack_fine : (words : List (List ℕ)) (packing : Packing) → IsFine tree packing → IsFine tree (pack_words words tree packing).0
  unfolding pack_words
  pack_fine [] packing fine = fine
  pack_fine (first ∷ words) packing fine = by (begins_path first) refl
    where
      by : (b : Bool) → begins_path first ≡ b → IsFine tree (pack_words (first ∷ words) tree packing).0
      by true is = rw is (configure_fine (first ∷ words) packing fine)
      by false is = rw is (named_fine first words packing fine)
