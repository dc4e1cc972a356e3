-- The pairs of each name beside all of them.
use Rattle.std.proofs.Common.{◌≡◌, ◌≢◌, ℕ, Bool, true, false, true≢false, cond, not, ◌&&◌, List, [], ◌∷◌, ◌++◌, append-nil, Option, Some, Result, Ok, Err, OnErr, Vec, String, string_bytes, string_eq, refl, sym, ap, subst, ◌∙◌}
use Rattle.std.specs.Prelude.{filter}
use Rattle.std.specs.HashMap.{HashMap, UpdatesBy, get_by_text}
use Rattle.std.specs.List.{list_any}
use Rattle.std.specs.Option.{option_map_or}
use Rattle.std.specs.Str.{bytes_eq}
use Rattle.std.proofs.lemmas.Map.Text.{hash_map_updates_text}
use Rattle.std.proofs.lemmas.Slice.Eq.{bytes_eq-Decides}
use Rattle.tk_virtual.specs.Named.{listed}
use Rattle.tk_virtual.specs.Several.{is_one_of, without_these}
use Rattle.tk_virtual.specs.Virtual.{has_name, is_same, without_name, without_pair}
use Rattle.tk_virtual.specs.declared.pair.Pair.{Pair}
use Rattle.tk_virtual.proofs.SameLemmas.{same_parts}

pub filters_commute : (p q : Pair → Bool) (pairs : List Pair) → filter p (filter q pairs) ≡ filter q (filter p pairs)
filters_commute p q [] = refl
filters_commute p q (pair ∷ pairs) = by (p pair) (q pair) refl refl (filters_commute p q pairs)
  where
    by : (a b : Bool) → p pair ≡ a → q pair ≡ b → filter p (filter q pairs) ≡ filter q (filter p pairs)
        → filter p (cond b (pair ∷ filter q pairs) (filter q pairs)) ≡ filter q (cond a (pair ∷ filter p pairs) (filter p pairs))
    by true true first second rest =
        ap (λ t. cond t (pair ∷ filter p (filter q pairs)) (filter p (filter q pairs))) first
        ∙ ap (λ (l : List Pair). pair ∷ l) rest
        ∙ sym (ap (λ t. cond t (pair ∷ filter q (filter p pairs)) (filter q (filter p pairs))) second)
    by true false first second rest = rest ∙ sym (ap (λ t. cond t (pair ∷ filter q (filter p pairs)) (filter q (filter p pairs))) second)
    by false true first second rest = ap (λ t. cond t (pair ∷ filter p (filter q pairs)) (filter p (filter q pairs))) first ∙ rest
    by false false first second rest = rest

-- a test that all of a name pass takes none of them out
pub kept_all : (p q : Pair → Bool) → ((pair : Pair) → q pair ≡ true → p pair ≡ true) → (pairs : List Pair) → filter q (filter p pairs) ≡ filter q pairs
kept_all p q passes [] = refl
kept_all p q passes (pair ∷ pairs) = by (p pair) (q pair) refl refl (passes pair) (kept_all p q passes pairs)
  where
    by : (a b : Bool) → p pair ≡ a → q pair ≡ b → (q pair ≡ true → p pair ≡ true) → filter q (filter p pairs) ≡ filter q pairs
        → filter q (cond a (pair ∷ filter p pairs) (filter p pairs)) ≡ cond b (pair ∷ filter q pairs) (filter q pairs)
    by true b first second h rest =
        ap (λ t. cond t (pair ∷ filter q (filter p pairs)) (filter q (filter p pairs))) second ∙ ap (λ (l : List Pair). cond b (pair ∷ l) l) rest
    by false true first second h rest = absurd (true≢false (sym (h second) ∙ first))
    by false false first second h rest = rest

-- a test that all of a name fail takes all of them out
kept_none : (p q : Pair → Bool) → ((pair : Pair) → q pair ≡ true → p pair ≡ false) → (pairs : List Pair) → filter q (filter p pairs) ≡ []
kept_none p q fails [] = refl
kept_none p q fails (pair ∷ pairs) = by (p pair) (q pair) refl refl (fails pair) (kept_none p q fails pairs)
  where
    by : (a b : Bool) → p pair ≡ a → q pair ≡ b → (q pair ≡ true → p pair ≡ false) → filter q (filter p pairs) ≡ [] → filter q (cond a (pair ∷ filter p pairs) (filter p pairs)) ≡ []
    by true true first second h rest = absurd (true≢false (sym first ∙ h second))
    by true false first second h rest = ap (λ t. cond t (pair ∷ filter q (filter p pairs)) (filter q (filter p pairs))) second ∙ rest
    by false b first second h rest = rest

pub of_name : (name : List ℕ) (pair : Pair) → has_name name pair ≡ true → pair.name ≡ name
of_name name pair has = (bytes_eq-Decides pair.name name).0 has

same_name : (name : List ℕ) → bytes_eq name name ≡ true
same_name name = (bytes_eq-Decides name name).1 refl

pub differs : (x y : List ℕ) → x ≢ y → bytes_eq x y ≡ false
differs x y apart = by (bytes_eq x y) refl
  where
    by : (t : Bool) → bytes_eq x y ≡ t → t ≡ false
    by true is = absurd (apart ((bytes_eq-Decides x y).0 is))
    by false is = refl

-- a pair of another name is none of these
pub another_stays : (name : List ℕ) (wanted : List Pair) (pair : Pair) → has_name name pair ≡ false → not (is_one_of name wanted pair) ≡ true
another_stays name wanted pair apart = ap (λ t. not (t && list_any (is_same pair) wanted)) apart

-- ---- what a map lists after the list of one name was changed

module _ {Y Z S : Type 0} (name : List ℕ) (m n : HashMap (String Y) (Vec Pair Z) S) where
  changed : (w : Option (Vec Pair Z)) → UpdatesBy string_eq (λ k. bytes_eq name (string_bytes k)) m n w → (other : List ℕ) → listed other n ≡ option_map_or (λ pairs. pairs.items) (cond (bytes_eq name other) w (get_by_text m other)) []
  changed w updates other = ap (λ found. option_map_or (λ (pairs : Vec Pair Z). pairs.items) found []) (hash_map_updates_text name m n w updates other)

  -- that of another name stays
  pub listed_other : (w : Option (Vec Pair Z)) → UpdatesBy string_eq (λ k. bytes_eq name (string_bytes k)) m n w → (other : List ℕ) → other ≢ name → listed other n ≡ listed other m
  listed_other w updates other apart =
      changed w updates other
      ∙ ap (λ t. option_map_or (λ (pairs : Vec Pair Z). pairs.items) (cond t w (get_by_text m other)) []) (differs name other (λ is. apart (sym is)))

  -- a list that is as it was
  pub listed_same : (w : Vec Pair Z) → UpdatesBy string_eq (λ k. bytes_eq name (string_bytes k)) m n (Some w) → w.items ≡ listed name m → (other : List ℕ) → listed other n ≡ listed other m
  listed_same w updates is other = changed (Some w) updates other ∙ by (bytes_eq name other) refl
    where
      by : (t : Bool) → bytes_eq name other ≡ t → option_map_or (λ (pairs : Vec Pair Z). pairs.items) (cond t (Some w) (get_by_text m other)) [] ≡ listed other m
      by true same = is ∙ ap (λ name. listed name m) ((bytes_eq-Decides name other).0 same)
      by false same = refl

  -- a pair is the last of its name
  pub listed_more : (pair : Pair) (w : Vec Pair Z) → UpdatesBy string_eq (λ k. bytes_eq name (string_bytes k)) m n (Some w) → w.items ≡ listed name m ++ pair ∷ [] → name ≡ pair.name
      → (other : List ℕ) → listed other n ≡ listed other m ++ filter (has_name other) (pair ∷ [])
  listed_more pair w updates is of other = changed (Some w) updates other ∙ by (bytes_eq name other) refl ∙ ap (λ name. listed other m ++ cond (bytes_eq name other) (pair ∷ []) []) of
    where
      by : (t : Bool) → bytes_eq name other ≡ t → option_map_or (λ (pairs : Vec Pair Z). pairs.items) (cond t (Some w) (get_by_text m other)) [] ≡ listed other m ++ cond (bytes_eq name other) (pair ∷ []) []
      by true same =
          is ∙ ap (λ name. listed name m ++ pair ∷ []) ((bytes_eq-Decides name other).0 same) ∙ sym (ap (λ t. listed other m ++ cond t (pair ∷ []) []) same)
      by false same = sym (append-nil (listed other m)) ∙ sym (ap (λ t. listed other m ++ cond t (pair ∷ []) []) same)

-- an answer that holds whatever was refused
pub whatever : {V E : Type 0} {P : Type 0} (r : Result V E) → P → OnErr r P
whatever (Ok value) holds = tt
whatever (Err refused) holds = holds

-- ---- what is listed under each name

module _ (pairs : List Pair) (old new : List ℕ → List Pair) (was : (name : List ℕ) → old name ≡ filter (has_name name) pairs) where
  -- a pair is taken out of those of its name
  pub listed_without : (wanted : Pair) → new wanted.name ≡ without_pair wanted (old wanted.name) → ((other : List ℕ) → other ≢ wanted.name → new other ≡ old other)
      → (name : List ℕ) → new name ≡ filter (has_name name) (without_pair wanted pairs)
  listed_without wanted own others name = by (bytes_eq name wanted.name) refl
    where
      mine : new wanted.name ≡ filter (has_name wanted.name) (without_pair wanted pairs)
      mine = own ∙ ap (without_pair wanted) (was wanted.name) ∙ filters_commute (λ pair. not (is_same wanted pair)) (has_name wanted.name) pairs

      another : (pair : Pair) (t : Bool) → is_same wanted pair ≡ t → pair.name ≡ name → bytes_eq name wanted.name ≡ false → not t ≡ true
      another pair true same has apart = absurd (true≢false (sym ((bytes_eq-Decides name wanted.name).1 (sym has ∙ (same_parts wanted pair same).0)) ∙ apart))
      another pair false same has apart = refl

      by : (t : Bool) → bytes_eq name wanted.name ≡ t → new name ≡ filter (has_name name) (without_pair wanted pairs)
      by true same = subst (λ n. new n ≡ filter (has_name n) (without_pair wanted pairs)) (sym ((bytes_eq-Decides name wanted.name).0 same)) mine
      by false apart =
          others name (λ is. true≢false (sym ((bytes_eq-Decides name wanted.name).1 is) ∙ apart)) ∙ was name
          ∙ sym (kept_all (λ pair. not (is_same wanted pair)) (has_name name) (λ pair has. another pair (is_same wanted pair) refl (of_name name pair has) apart) pairs)

  -- all pairs of a name are taken out
  pub listed_without_name : (gone : List ℕ) → new gone ≡ [] → ((other : List ℕ) → other ≢ gone → new other ≡ old other) → (name : List ℕ) → new name ≡ filter (has_name name) (without_name gone pairs)
  listed_without_name gone own others name = by (bytes_eq name gone) refl
    where
      by : (t : Bool) → bytes_eq name gone ≡ t → new name ≡ filter (has_name name) (without_name gone pairs)
      by true same =
          subst (λ n. new n ≡ filter (has_name n) (without_name gone pairs)) (sym ((bytes_eq-Decides name gone).0 same))
          (own ∙ sym (kept_none (λ pair. not (has_name gone pair)) (has_name gone) (λ pair has. ap not has) pairs))
      by false apart =
          others name (λ is. true≢false (sym ((bytes_eq-Decides name gone).1 is) ∙ apart)) ∙ was name
          ∙ sym (kept_all (λ pair. not (has_name gone pair)) (has_name name) (λ pair has. ap not (ap (λ n. bytes_eq n gone) (of_name name pair has) ∙ apart)) pairs)

  -- several pairs of a name are taken out of those of it
  pub listed_without_these : (gone : List ℕ) (wanted : List Pair) → new gone ≡ without_these gone wanted (old gone) → ((other : List ℕ) → other ≢ gone → new other ≡ old other)
      → (name : List ℕ) → new name ≡ filter (has_name name) (without_these gone wanted pairs)
  listed_without_these gone wanted own others name = by (bytes_eq name gone) refl
    where
      mine : new gone ≡ filter (has_name gone) (without_these gone wanted pairs)
      mine = own ∙ ap (without_these gone wanted) (was gone) ∙ filters_commute (λ pair. not (is_one_of gone wanted pair)) (has_name gone) pairs

      by : (t : Bool) → bytes_eq name gone ≡ t → new name ≡ filter (has_name name) (without_these gone wanted pairs)
      by true same = subst (λ n. new n ≡ filter (has_name n) (without_these gone wanted pairs)) (sym ((bytes_eq-Decides name gone).0 same)) mine
      by false apart =
          others name (λ is. true≢false (sym ((bytes_eq-Decides name gone).1 is) ∙ apart)) ∙ was name
          ∙ sym (kept_all (λ pair. not (is_one_of gone wanted pair)) (has_name name)
          (λ pair has. another_stays gone wanted pair (ap (λ n. bytes_eq n gone) (of_name name pair has) ∙ apart)) pairs)
