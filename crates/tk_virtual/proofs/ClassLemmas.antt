-- The pairs of each class beside all of them.
use Rattle.std.proofs.Common.{◌≡◌, ◌≢◌, ℕ, ◌+◌, ◌-◌, ◌<◌, ◌==◌, ◌||◌, ◌&&◌, Bool, true, false, true≢false, cond, not, List, [], ◌∷◌, ◌++◌, append-nil, append_assoc, length, length-append, take, drop, get_or, Some, None, refl, sym, ap, ◌∙◌, arith}
use Rattle.std.specs.Prelude.{filter, find}
use Rattle.std.specs.List.{list_any}
use Rattle.indexmap.specs.IndexSet.{remove_key}
use Rattle.std.proofs.lemmas.Bool.Decides.{nat_tests}
use Rattle.std.proofs.lemmas.List.{at_drop_more}
use Rattle.std.proofs.lemmas.List.Elements.{filter-append}
use Rattle.std.proofs.lemmas.List.Folds.{list_any-append}
use Rattle.std.proofs.Math.Seq.{take-append_seam}
use Rattle.tk_virtual.specs.Classes.{is_of_class, sequence_class}
use Rattle.tk_virtual.specs.Several.{is_left_in, is_one_of, without_if_left, without_these}
use Rattle.tk_virtual.specs.Virtual.{has_name, is_same, without_name, without_pair}
use Rattle.tk_virtual.specs.declared.pair.Pair.{Pair}
use Rattle.tk_virtual.proofs.NamedLemmas.{filters_commute, kept_all}
use Rattle.tk_virtual.proofs.PairLemmas.{untouched}
use Rattle.tk_virtual.proofs.SameLemmas.{same_itself}

itself : (n : ℕ) → (n == n) ≡ true
itself n = grind (arith, nat_tests)

equal : (m n : ℕ) → (m == n) ≡ true → m ≡ n
equal m n h = grind (arith, nat_tests, h)

apart : (m n : ℕ) → (m == n) ≡ false → n ≢ m
apart m n h = λ is. true≢false (sym (itself m) ∙ ap (λ k. m == k) (sym is) ∙ h)

or_true : (a : Bool) → (a || true) ≡ true
or_true true = refl
or_true false = refl

neither : (a b : Bool) → (a || b) ≡ false → (a ≡ false) × (b ≡ false)
neither true b h = absurd (cc)
neither false b h = (refl, h)

-- none of all is none of some
pub none_of_some : (test q : Pair → Bool) (pairs : List Pair) → list_any test pairs ≡ false → list_any test (filter q pairs) ≡ false
none_of_some test q [] none = refl
none_of_some test q (pair ∷ pairs) none = by (test pair) (q pair) refl none (none_of_some test q pairs)
  where
    by : (s t : Bool) → test pair ≡ s → (s || list_any test pairs) ≡ false → (list_any test pairs ≡ false → list_any test (filter q pairs) ≡ false) → list_any test (cond t (pair ∷ filter q pairs) (filter q pairs)) ≡ false
    by true t is none rest = absurd (cc)
    by false true is none rest = ap (λ s. s || list_any test (filter q pairs)) is ∙ rest none
    by false false is none rest = rest none

-- the last, which goes again
pub last_out : (pairs : List Pair) (pair : Pair) → take (length (pairs ++ pair ∷ []) - 1) (pairs ++ pair ∷ []) ≡ pairs
last_out pairs pair =
    let count : length (pairs ++ pair ∷ []) - 1 ≡ length pairs = omega (arith, length-append pairs (pair ∷ [])) in
    ap (λ n. take n (pairs ++ pair ∷ [])) count ∙ take-append_seam pairs (pair ∷ [])

-- where none is found, none goes
pub none_goes : (test : Pair → Bool) (pairs : List Pair) → find test pairs ≡ None → remove_key test pairs ≡ pairs
none_goes test [] none = refl
none_goes test (pair ∷ pairs) none = by (test pair) none (none_goes test pairs)
  where
    by : (t : Bool) → cond t (Some pair) (find test pairs) ≡ None → (find test pairs ≡ None → remove_key test pairs ≡ pairs) → cond t pairs (pair ∷ remove_key test pairs) ≡ pair ∷ pairs
    by true none rest = absurd (cc)
    by false none rest = ap (λ (l : List Pair). pair ∷ l) (rest none)

-- the one that goes was none of these
pub others_stay : (test q : Pair → Bool) (taken : Pair) (pairs : List Pair) → find test pairs ≡ Some taken → q taken ≡ false → filter q (remove_key test pairs) ≡ filter q pairs
others_stay test q taken [] found other = refl
others_stay test q taken (pair ∷ pairs) found other = by (test pair) found (λ found. others_stay test q taken pairs found other)
  where
    by : (t : Bool) → cond t (Some pair) (find test pairs) ≡ Some taken → (find test pairs ≡ Some taken → filter q (remove_key test pairs) ≡ filter q pairs)
        → filter q (cond t pairs (pair ∷ remove_key test pairs)) ≡ cond (q pair) (pair ∷ filter q pairs) (filter q pairs)
    by true found rest =
        let is : pair ≡ taken = cc in
        let none : q pair ≡ false = ap q is ∙ other in
        sym (ap (λ t. cond t (pair ∷ filter q pairs) (filter q pairs)) none)
    by false found rest = ap (λ l. cond (q pair) (pair ∷ l) l) (rest found)

-- ---- what a map lists under each class after a change

module _ (pairs : List Pair) (old new : ℕ → List Pair) (was : (class : ℕ) → old class ≡ filter (is_of_class class) pairs) where
  -- a pair is the last of its class
  pub filed_more : (pair : Pair) → new (sequence_class pair.sequence) ≡ old (sequence_class pair.sequence) ++ pair ∷ [] → ((other : ℕ) → other ≢ sequence_class pair.sequence → new other ≡ old other)
      → (class : ℕ) → new class ≡ filter (is_of_class class) (pairs ++ pair ∷ [])
  filed_more pair own others class = by (sequence_class pair.sequence == class) refl ∙ sym (filter-append (is_of_class class) pairs (pair ∷ []))
    where
      by : (t : Bool) → (sequence_class pair.sequence == class) ≡ t → new class ≡ filter (is_of_class class) pairs ++ cond (sequence_class pair.sequence == class) (pair ∷ []) []
      by true is =
          let same = equal (sequence_class pair.sequence) class is in
          ap new (sym same) ∙ own ∙ ap (λ n. old n ++ pair ∷ []) same ∙ ap (λ l. l ++ pair ∷ []) (was class)
          ∙ sym (ap (λ t. filter (is_of_class class) pairs ++ cond t (pair ∷ []) []) is)
      by false is =
          others class (apart (sequence_class pair.sequence) class is) ∙ was class ∙ sym (append-nil (filter (is_of_class class) pairs))
          ∙ sym (ap (λ t. filter (is_of_class class) pairs ++ cond t (pair ∷ []) []) is)

  -- the last pair of all is taken out
  pub filed_last : (rest : List Pair) (pair : Pair) → pairs ≡ rest ++ pair ∷ [] → new (sequence_class pair.sequence) ≡ take (length (old (sequence_class pair.sequence)) - 1) (old (sequence_class pair.sequence))
      → ((other : ℕ) → other ≢ sequence_class pair.sequence → new other ≡ old other) → (class : ℕ) → new class ≡ filter (is_of_class class) rest
  filed_last rest pair last own others class = by (sequence_class pair.sequence == class) refl
    where
      parts : old class ≡ filter (is_of_class class) rest ++ cond (sequence_class pair.sequence == class) (pair ∷ []) []
      parts = was class ∙ ap (filter (is_of_class class)) last ∙ filter-append (is_of_class class) rest (pair ∷ [])

      by : (t : Bool) → (sequence_class pair.sequence == class) ≡ t → new class ≡ filter (is_of_class class) rest
      by true is =
          let same = equal (sequence_class pair.sequence) class is in
          let front = filter (is_of_class class) rest in
          let whole : old class ≡ front ++ pair ∷ [] = parts ∙ ap (λ t. front ++ cond t (pair ∷ []) []) is in
          ap new (sym same) ∙ own ∙ ap (λ n. take (length (old n) - 1) (old n)) same
          ∙ ap (λ (l : List Pair). take (length l - 1) l) whole
          ∙ last_out front pair
      by false is =
          others class (apart (sequence_class pair.sequence) class is) ∙ parts
          ∙ ap (λ t. filter (is_of_class class) rest ++ cond t (pair ∷ []) []) is ∙ append-nil (filter (is_of_class class) rest)

  -- a pair is taken out
  pub filed_without : (wanted taken : Pair) → find (is_same wanted) pairs ≡ Some taken → without_pair wanted pairs ≡ remove_key (is_same wanted) pairs
      → new (sequence_class taken.sequence) ≡ without_pair wanted (old (sequence_class taken.sequence)) → ((other : ℕ) → other ≢ sequence_class taken.sequence → new other ≡ old other)
      → (class : ℕ) → new class ≡ filter (is_of_class class) (without_pair wanted pairs)
  filed_without wanted taken found once own others class = by (sequence_class taken.sequence == class) refl
    where
      by : (t : Bool) → (sequence_class taken.sequence == class) ≡ t → new class ≡ filter (is_of_class class) (without_pair wanted pairs)
      by true is =
          let same = equal (sequence_class taken.sequence) class is in
          ap new (sym same) ∙ own ∙ ap (λ n. without_pair wanted (old n)) same ∙ ap (without_pair wanted) (was class)
          ∙ filters_commute (λ pair. not (is_same wanted pair)) (is_of_class class) pairs
      by false is =
          others class (apart (sequence_class taken.sequence) class is) ∙ was class
          ∙ sym (others_stay (is_same wanted) (is_of_class class) taken pairs found is) ∙ ap (filter (is_of_class class)) (sym once)

  -- all pairs of a name are taken out of the classes that they are of
  pub filed_without_name : (name : List ℕ) → ((class : ℕ) → new class ≡ cond (list_any (is_of_class class) (filter (has_name name) pairs)) (without_name name (old class)) (old class))
      → (class : ℕ) → new class ≡ filter (is_of_class class) (without_name name pairs)
  filed_without_name name changed class = changed class ∙ by (list_any (is_of_class class) (filter (has_name name) pairs)) refl
    where
      none_by : (rest : List Pair) → list_any (is_of_class class) (filter (has_name name) rest) ≡ false → filter (is_of_class class) rest ≡ filter (is_of_class class) (without_name name rest)
      none_by [] none = refl
      none_by (pair ∷ rest) none = split (has_name name pair) refl none (none_by rest)
        where
          split : (t : Bool) → has_name name pair ≡ t → list_any (is_of_class class) (cond t (pair ∷ filter (has_name name) rest) (filter (has_name name) rest)) ≡ false
              → (list_any (is_of_class class) (filter (has_name name) rest) ≡ false → filter (is_of_class class) rest ≡ filter (is_of_class class) (without_name name rest))
              → cond (is_of_class class pair) (pair ∷ filter (is_of_class class) rest) (filter (is_of_class class) rest) ≡ filter (is_of_class class) (cond (not t) (pair ∷ without_name name rest) (without_name name rest))
          split true has none later = out (is_of_class class pair) none later
            where
              out : (t : Bool) → (t || list_any (is_of_class class) (filter (has_name name) rest)) ≡ false
                  → (list_any (is_of_class class) (filter (has_name name) rest) ≡ false → filter (is_of_class class) rest ≡ filter (is_of_class class) (without_name name rest))
                  → cond t (pair ∷ filter (is_of_class class) rest) (filter (is_of_class class) rest) ≡ filter (is_of_class class) (without_name name rest)
              out true none later = absurd (cc)
              out false none later = later none
          split false has none later = ap (λ l. cond (is_of_class class pair) (pair ∷ l) l) (later none)

      by : (t : Bool) → list_any (is_of_class class) (filter (has_name name) pairs) ≡ t → cond t (without_name name (old class)) (old class) ≡ filter (is_of_class class) (without_name name pairs)
      by true is = ap (without_name name) (was class) ∙ filters_commute (λ pair. not (has_name name pair)) (is_of_class class) pairs
      by false is = was class ∙ none_by pairs is

  -- several pairs of a name are taken out of the classes in which one of them is listed
  module _ (name : List ℕ) (wanted : List Pair) where
    abbrev goes : List Pair → ℕ → Pair → Bool
    goes listed class pair = is_of_class class pair && is_left_in name wanted listed pair

    -- where none of the name goes from a class that lists these, none of these goes
    none_goes_from : (class : ℕ) (listed front rest : List Pair) → listed ≡ front ++ filter (is_of_class class) rest
        → list_any (goes listed class) (filter (has_name name) rest) ≡ false → list_any (is_one_of name wanted) (filter (is_of_class class) rest) ≡ false
    none_goes_from class listed front [] is none = refl
    none_goes_from class listed front (pair ∷ rest) is none = by (is_of_class class pair) (has_name name pair) refl refl is none (λ front is none. none_goes_from class listed front rest is none)
      where
        by : (a b : Bool) → is_of_class class pair ≡ a → has_name name pair ≡ b → listed ≡ front ++ cond a (pair ∷ filter (is_of_class class) rest) (filter (is_of_class class) rest)
            → list_any (goes listed class) (cond b (pair ∷ filter (has_name name) rest) (filter (has_name name) rest)) ≡ false
            → ((front : List Pair) → listed ≡ front ++ filter (is_of_class class) rest → list_any (goes listed class) (filter (has_name name) rest) ≡ false → list_any (is_one_of name wanted) (filter (is_of_class class) rest) ≡ false)
            → list_any (is_one_of name wanted) (cond a (pair ∷ filter (is_of_class class) rest) (filter (is_of_class class) rest)) ≡ false
        by false false of has is none later = later front is none
        by false true of has is none later =
            later front is (sym (ap (λ t. (t && is_left_in name wanted listed pair) || list_any (goes listed class) (filter (has_name name) rest)) of) ∙ none)
        by true false of has is none later =
            let behind : listed ≡ (front ++ pair ∷ []) ++ filter (is_of_class class) rest = is ∙ sym (append_assoc front (pair ∷ []) (filter (is_of_class class) rest)) in
            ap (λ t. (t && list_any (is_same pair) wanted) || list_any (is_one_of name wanted) (filter (is_of_class class) rest)) has ∙ later (front ++ pair ∷ []) behind none
        by true true of has is none later =
            let behind : listed ≡ (front ++ pair ∷ []) ++ filter (is_of_class class) rest = is ∙ sym (append_assoc front (pair ∷ []) (filter (is_of_class class) rest)) in
            let there : list_any (is_same pair) listed ≡ true =
            ap (list_any (is_same pair)) is ∙ list_any-append (is_same pair) front (pair ∷ filter (is_of_class class) rest)
            ∙ ap (λ t. list_any (is_same pair) front || (t || list_any (is_same pair) (filter (is_of_class class) rest))) (same_itself pair) ∙ or_true (list_any (is_same pair) front) in
            let parts = neither (is_one_of name wanted pair) (list_any (goes listed class) (filter (has_name name) rest))
            (sym (ap (λ t. (t && is_left_in name wanted listed pair) || list_any (goes listed class) (filter (has_name name) rest)) of
            ∙ ap (λ t. (t && is_one_of name wanted pair) || list_any (goes listed class) (filter (has_name name) rest)) there) ∙ none) in
            ap (λ t. t || list_any (is_one_of name wanted) (filter (is_of_class class) rest)) parts.0 ∙ later (front ++ pair ∷ []) behind parts.1

    pub filed_without_these : ((class : ℕ) → new class ≡ cond (list_any (goes (old class) class) (filter (has_name name) pairs)) (without_these name wanted (old class)) (old class))
        → (class : ℕ) → new class ≡ filter (is_of_class class) (without_these name wanted pairs)
    filed_without_these changed class = changed class ∙ by (list_any (goes (old class) class) (filter (has_name name) pairs)) refl ∙ filters_commute (λ pair. not (is_one_of name wanted pair)) (is_of_class class) pairs
      where
        by : (t : Bool) → list_any (goes (old class) class) (filter (has_name name) pairs) ≡ t → cond t (without_these name wanted (old class)) (old class) ≡ without_these name wanted (filter (is_of_class class) pairs)
        by true is = ap (without_these name wanted) (was class)
        by false is = was class ∙ sym (untouched (is_one_of name wanted) (filter (is_of_class class) pairs) (none_goes_from class (old class) [] pairs (was class) is))

-- ---- one pair's class more, of which a name is taken out

twice : (name : List ℕ) (pairs : List Pair) → without_name name (without_name name pairs) ≡ without_name name pairs
twice name pairs = kept_all (λ pair. not (has_name name pair)) (λ pair. not (has_name name pair)) (λ pair h. h) pairs

module _ (name : List ℕ) (pairs : List Pair) (before after : ℕ → List Pair) where
  pub one_class_more : (i : ℕ) (pair : Pair) → i < length pairs → pair ≡ get_or pairs i pair
      → after (sequence_class pair.sequence) ≡ without_name name (before (sequence_class pair.sequence)) → ((other : ℕ) → other ≢ sequence_class pair.sequence → after other ≡ before other)
      → (class : ℕ) → cond (list_any (is_of_class class) (drop (i + 1) pairs)) (without_name name (after class)) (after class)
      ≡ cond (list_any (is_of_class class) (drop i pairs)) (without_name name (before class)) (before class)
  one_class_more i pair below is own others class =
      by (sequence_class pair.sequence == class) (list_any (is_of_class class) (drop (i + 1) pairs)) refl
      ∙ sym (ap (λ t. cond t (without_name name (before class)) (before class))
      (at_drop_more (list_any (is_of_class class)) pairs i pair below ∙ ap (λ p. list_any (is_of_class class) (p ∷ drop (i + 1) pairs)) (sym is)))
    where
      by : (s t : Bool) → (sequence_class pair.sequence == class) ≡ s
          → cond t (without_name name (after class)) (after class) ≡ cond ((sequence_class pair.sequence == class) || t) (without_name name (before class)) (before class)
      by true t same =
          let at = equal (sequence_class pair.sequence) class same in
          let out : after class ≡ without_name name (before class) = ap after (sym at) ∙ own ∙ ap (λ n. without_name name (before n)) at in
          once t out ∙ sym (ap (λ s. cond (s || t) (without_name name (before class)) (before class)) same)
        where
          once : (t : Bool) → after class ≡ without_name name (before class) → cond t (without_name name (after class)) (after class) ≡ without_name name (before class)
          once true out = ap (without_name name) out ∙ twice name (before class)
          once false out = out
      by false t same =
          ap (λ l. cond t (without_name name l) l) (others class (apart (sequence_class pair.sequence) class same))
          ∙ sym (ap (λ s. cond (s || t) (without_name name (before class)) (before class)) same)

-- ---- one pair's class more, of which several pairs of a name are taken out

module _ (name : List ℕ) (wanted pairs : List Pair) (before after : ℕ → List Pair) where
  abbrev going : List Pair → ℕ → Pair → Bool
  going listed class pair = is_of_class class pair && is_left_in name wanted listed pair

  abbrev left : List Pair → List Pair
  left listed = without_these name wanted listed

  left_twice : (listed : List Pair) → left (left listed) ≡ left listed
  left_twice listed = kept_all (λ pair. not (is_one_of name wanted pair)) (λ pair. not (is_one_of name wanted pair)) (λ pair h. h) listed

  pub these_class_more : (i : ℕ) (pair : Pair) → i < length pairs → pair ≡ get_or pairs i pair
      → after (sequence_class pair.sequence) ≡ without_if_left name wanted pair (before (sequence_class pair.sequence)) → ((other : ℕ) → other ≢ sequence_class pair.sequence → after other ≡ before other)
      → (class : ℕ) → cond (list_any (going (after class) class) (drop (i + 1) pairs)) (left (after class)) (after class)
      ≡ cond (list_any (going (before class) class) (drop i pairs)) (left (before class)) (before class)
  these_class_more i pair below is own others class =
      by (sequence_class pair.sequence == class) refl
      ∙ sym (ap (λ t. cond t (left (before class)) (before class))
      (at_drop_more (list_any (going (before class) class)) pairs i pair below ∙ ap (λ p. list_any (going (before class) class) (p ∷ drop (i + 1) pairs)) (sym is)))
    where
      rest : List Pair
      rest = drop (i + 1) pairs

      by : (s : Bool) → (sequence_class pair.sequence == class) ≡ s
          → cond (list_any (going (after class) class) rest) (left (after class)) (after class)
          ≡ cond (going (before class) class pair || list_any (going (before class) class) rest) (left (before class)) (before class)
      by false differ =
          ap (λ l. cond (list_any (going l class) rest) (left l) l) (others class (apart (sequence_class pair.sequence) class differ))
          ∙ sym (ap (λ s. cond ((s && is_left_in name wanted (before class) pair) || list_any (going (before class) class) rest) (left (before class)) (before class)) differ)
      by true same =
          let at = equal (sequence_class pair.sequence) class same in
          let told : after class ≡ without_if_left name wanted pair (before class) = ap after (sym at) ∙ own ∙ ap (λ n. without_if_left name wanted pair (before n)) at in
          one (is_left_in name wanted (before class) pair) told
          ∙ sym (ap (λ s. cond ((s && is_left_in name wanted (before class) pair) || list_any (going (before class) class) rest) (left (before class)) (before class)) same)
        where
          gone : (t : Bool) → after class ≡ left (before class) → cond t (left (after class)) (after class) ≡ left (before class)
          gone true out = ap left out ∙ left_twice (before class)
          gone false out = out

          one : (t : Bool) → after class ≡ cond t (left (before class)) (before class)
              → cond (list_any (going (after class) class) rest) (left (after class)) (after class)
              ≡ cond (t || list_any (going (before class) class) rest) (left (before class)) (before class)
          one true out = gone (list_any (going (after class) class) rest) out
          one false out = ap (λ l. cond (list_any (going l class) rest) (left l) l) out

-- where none has the name, all stay
pub stays : (name : List ℕ) (pairs : List Pair) → (length (filter (has_name name) pairs) == 0) ≡ true → pairs ≡ without_name name pairs
stays name [] none = refl
stays name (pair ∷ pairs) none = by (has_name name pair) none (stays name pairs)
  where
    by : (t : Bool) → (length (cond t (pair ∷ filter (has_name name) pairs) (filter (has_name name) pairs)) == 0) ≡ true → ((length (filter (has_name name) pairs) == 0) ≡ true → pairs ≡ without_name name pairs)
        → pair ∷ pairs ≡ cond (not t) (pair ∷ without_name name pairs) (without_name name pairs)
    by true none rest = absurd (let is = equal (length (pair ∷ filter (has_name name) pairs)) 0 none in omega (arith, is))
    by false none rest = ap (λ (l : List Pair). pair ∷ l) (rest none)
