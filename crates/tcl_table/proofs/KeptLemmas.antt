-- A map under text keys keeps what the list of its texts says.
use Rattle.std.proofs.Common.{◌≡◌, ℕ, zero, suc, ◌<◌, ◌≤◌, ◌-◌, Bool, true, false, cond, not, ◌||◌, List, [], ◌∷◌, length, take, Option, None, Some, is_some, String, string_bytes, string_eq, bytes_eq, refl, sym, ap, ◌∙◌, subst, arith}
use Rattle.std.specs.List.{IsDistinct, AllByRecursion, list_any}
use Rattle.std.specs.Map.{keys_of, lookup, lookup_entry, remove_entry}
use Rattle.std.specs.Option.{option_map_or}
use Rattle.std.proofs.lemmas.Slice.Eq.{bytes_eq-Decides}
use Rattle.std.proofs.lemmas.List.{take_all}
use Rattle.lru.specs.LruCache.{LruCache, promoted, put_entries}
use Rattle.tcl_table.specs.Kept.{other_texts}
use Rattle.tcl_table.specs.Entries.{texts_of, AreTheirs}

-- the test by which a map finds the key with these bytes
abbrev pub is_key : {Z : Type 0} → List ℕ → String Z → Bool
is_key text k = bytes_eq text (string_bytes k)

-- what isn't among texts isn't taken out
pub without_none : (text : List ℕ) (texts : List (List ℕ)) → list_any (bytes_eq text) texts ≡ false → other_texts text texts ≡ texts
without_none text [] none = refl
without_none text (other ∷ texts) none = by (bytes_eq text other) none (without_none text texts)
  where
    by : (b : Bool) → b || list_any (bytes_eq text) texts ≡ false → (list_any (bytes_eq text) texts ≡ false → other_texts text texts ≡ texts)
        → cond (not b) (other ∷ other_texts text texts) (other_texts text texts) ≡ other ∷ texts
    by true none rest = absurd (cc)
    by false none rest = ap (λ ts. other ∷ ts) (rest none)

module _ {Z V : Type 0} (text : List ℕ) where
  pub any_lookup : (es : List (String Z × V)) → list_any (bytes_eq text) (texts_of es) ≡ is_some (lookup (is_key text) es)
  any_lookup [] = refl
  any_lookup (e ∷ es) = by (is_key text e.0) (any_lookup es)
    where
      by : (b : Bool) → list_any (bytes_eq text) (texts_of es) ≡ is_some (lookup (is_key text) es)
          → b || list_any (bytes_eq text) (texts_of es) ≡ is_some (cond b (Some e.1) (lookup (is_key text) es))
      by true rest = refl
      by false rest = rest

  -- keys that differ from one with these bytes
  others_none : (key : String Z) (es : List (String Z × V)) → text ≡ string_bytes key → AllByRecursion (λ other. string_eq key other ≡ false) (keys_of es) → list_any (bytes_eq text) (texts_of es) ≡ false
  others_none key [] same differ = refl
  others_none key (e ∷ es) same differ =
      let here : bytes_eq text (string_bytes e.0) ≡ false = ap (λ t. bytes_eq t (string_bytes e.0)) same ∙ differ.0 in
      ap (λ b. b || list_any (bytes_eq text) (texts_of es)) here ∙ others_none key es same differ.1

  -- an entry that is found, and what is left without it
  abbrev IsFound : List (String Z × V) → String Z × V → Type 0
  IsFound es e = (lookup_entry (is_key text) es ≡ Some e) × (string_bytes e.0 ≡ text) × (texts_of (remove_entry (is_key text) es) ≡ other_texts text (texts_of es)) × (suc (length (texts_of (remove_entry (is_key text) es))) ≡ length es)

  found : (es : List (String Z × V)) → IsDistinct string_eq (keys_of es) → list_any (bytes_eq text) (texts_of es) ≡ true → (e : String Z × V) × IsFound es e
  unfolding IsDistinct
  found [] distinct kept = absurd (cc)
  found (f ∷ es) distinct kept = by (bytes_eq text (string_bytes f.0)) refl kept (found es distinct.1)
    where
      length_of : (xs : List (String Z × V)) → length (texts_of xs) ≡ length xs
      length_of [] = refl
      length_of (x ∷ xs) = ap suc (length_of xs)

      by : (b : Bool) → bytes_eq text (string_bytes f.0) ≡ b → b || list_any (bytes_eq text) (texts_of es) ≡ true
          → (list_any (bytes_eq text) (texts_of es) ≡ true → (e : String Z × V) × IsFound es e)
          → (e : String Z × V) × ((cond b (Some f) (lookup_entry (is_key text) es) ≡ Some e) × (string_bytes e.0 ≡ text)
          × (texts_of (cond b es (f ∷ remove_entry (is_key text) es)) ≡ cond (not b) (string_bytes f.0 ∷ other_texts text (texts_of es)) (other_texts text (texts_of es)))
          × (suc (length (texts_of (cond b es (f ∷ remove_entry (is_key text) es)))) ≡ suc (length es)))
      by true is kept rest =
          let same : text ≡ string_bytes f.0 = (bytes_eq-Decides text (string_bytes f.0)).0 is in
          (f, (refl, sym same, sym (without_none text (texts_of es) (others_none f.0 es same distinct.0)), ap suc (length_of es)))
      by false is kept rest =
          let there : (e : String Z × V) × IsFound es e = rest kept in
          (there.0, (there.1.0, there.1.1, ap (λ ts. string_bytes f.0 ∷ ts) there.1.2, ap suc there.1.3))

  -- a text that is kept goes first
  pub raised : (es : List (String Z × V)) (capacity : ℕ) → IsDistinct string_eq (keys_of es) → length es ≤ capacity → list_any (bytes_eq text) (texts_of es) ≡ true
      → texts_of (promoted (is_key text) es) ≡ take capacity (text ∷ other_texts text (texts_of es))
  raised es capacity distinct fits kept =
      let there = found es distinct kept in
      let first : texts_of (promoted (is_key text) es) ≡ string_bytes there.0.0 ∷ texts_of (remove_entry (is_key text) es) = ap (λ (o : Option (String Z × V)). texts_of (option_map_or (λ e. e ∷ remove_entry (is_key text) es) o es)) there.1.0 in
      let same : string_bytes there.0.0 ∷ texts_of (remove_entry (is_key text) es) ≡ text ∷ other_texts text (texts_of es) = ap (λ t. t ∷ texts_of (remove_entry (is_key text) es)) there.1.1 ∙ ap (λ ts. text ∷ ts) there.1.2 in
      let short : length (text ∷ other_texts text (texts_of es)) ≤ capacity = omega (arith, ap length there.1.2, there.1.3) in
      first ∙ same ∙ sym (take_all capacity (text ∷ other_texts text (texts_of es)) short)

  -- a text that isn't kept is put first
  texts_of-take : (n : ℕ) (es : List (String Z × V)) → texts_of (take n es) ≡ take n (texts_of es)
  texts_of-take zero es = refl
  texts_of-take (suc n) [] = refl
  texts_of-take (suc n) (e ∷ es) = ap (λ ts. string_bytes e.0 ∷ ts) (texts_of-take n es)

  pub put_new : (key : String Z) (value : V) (es : List (String Z × V)) (capacity : ℕ) → 0 < capacity → string_bytes key ≡ text → list_any (bytes_eq text) (texts_of es) ≡ false
      → texts_of ((key, value) ∷ take (capacity - 1) es) ≡ take capacity (text ∷ other_texts text (texts_of es))
  put_new key value es zero some same none = absurd (omega arith)
  put_new key value es (suc n) some same none =
      let less : suc n - 1 ≡ n = omega arith in
      ap (λ m. string_bytes key ∷ texts_of (take m es)) less
      ∙ ap (λ ts. string_bytes key ∷ ts) (texts_of-take n es)
      ∙ ap (λ t. t ∷ take n (texts_of es)) same
      ∙ ap (λ ts. text ∷ take n ts) (sym (without_none text (texts_of es) none))

-- a key that isn't kept
pub none_found : {Z V : Type 0} (key : String Z) (es : List (String Z × V)) → list_any (bytes_eq (string_bytes key)) (texts_of es) ≡ false → lookup_entry (string_eq key) es ≡ None
none_found key [] none = refl
none_found key (e ∷ es) none = by (string_eq key e.0) none (none_found key es)
  where
    by : (b : Bool) → b || list_any (bytes_eq (string_bytes key)) (texts_of es) ≡ false → (list_any (bytes_eq (string_bytes key)) (texts_of es) ≡ false → lookup_entry (string_eq key) es ≡ None)
        → cond b (Some e) (lookup_entry (string_eq key) es) ≡ None
    by true none rest = absurd (cc)
    by false none rest = rest none

-- what is put where the key isn't kept
pub put_is : {Z V : Type 0} (cache : LruCache (String Z) V) (key : String Z) (value : V) → list_any (bytes_eq (string_bytes key)) (texts_of cache.entries) ≡ false
    → put_entries string_eq cache key value ≡ (key, value) ∷ take (cache.cap - 1) cache.entries
put_is {Z} {V} cache key value none =
    ap (λ (o : Option (String Z × V)). option_map_or (λ e. (e.0, value) ∷ remove_entry (string_eq key) cache.entries) o ((key, value) ∷ take (cache.cap - 1) cache.entries)) (none_found key cache.entries none)

-- ── each script stays that of its text ──

module _ {Z : Type 0} where
  pub theirs_found : (text value : List ℕ) (es : List (String Z × List ℕ)) → AreTheirs es → lookup (is_key text) es ≡ Some value → value ≡ text
  theirs_found text value [] theirs is = absurd (cc)
  theirs_found text value (e ∷ es) theirs is = by (bytes_eq text (string_bytes e.0)) refl is (theirs_found text value es theirs.1)
    where
      by : (b : Bool) → bytes_eq text (string_bytes e.0) ≡ b → cond b (Some e.1) (lookup (is_key text) es) ≡ Some value → (lookup (is_key text) es ≡ Some value → value ≡ text) → value ≡ text
      by true same is rest = let it : e.1 ≡ value = cc in sym it ∙ theirs.0 ∙ sym ((bytes_eq-Decides text (string_bytes e.0)).0 same)
      by false same is rest = rest is

  theirs_entry : (test : String Z → Bool) (es : List (String Z × List ℕ)) (e : String Z × List ℕ) → AreTheirs es → lookup_entry test es ≡ Some e → e.1 ≡ string_bytes e.0
  theirs_entry test [] e theirs is = absurd (cc)
  theirs_entry test (f ∷ es) e theirs is = by (test f.0) is (theirs_entry test es e theirs.1)
    where
      by : (b : Bool) → cond b (Some f) (lookup_entry test es) ≡ Some e → (lookup_entry test es ≡ Some e → e.1 ≡ string_bytes e.0) → e.1 ≡ string_bytes e.0
      by true is rest = let it : f ≡ e = cc in subst (λ (x : String Z × List ℕ). x.1 ≡ string_bytes x.0) it theirs.0
      by false is rest = rest is

  theirs_removed : (test : String Z → Bool) (es : List (String Z × List ℕ)) → AreTheirs es → AreTheirs (remove_entry test es)
  theirs_removed test [] theirs = tt
  theirs_removed test (f ∷ es) theirs = by (test f.0) (theirs_removed test es theirs.1)
    where
      by : (b : Bool) → AreTheirs (remove_entry test es) → AreTheirs (cond b es (f ∷ remove_entry test es))
      by true rest = theirs.1
      by false rest = (theirs.0, rest)

  pub theirs_taken : (n : ℕ) (es : List (String Z × List ℕ)) → AreTheirs es → AreTheirs (take n es)
  theirs_taken zero es theirs = tt
  theirs_taken (suc n) [] theirs = tt
  theirs_taken (suc n) (e ∷ es) theirs = (theirs.0, theirs_taken n es theirs.1)

  pub theirs_promoted : (test : String Z → Bool) (es : List (String Z × List ℕ)) → AreTheirs es → AreTheirs (promoted test es)
  theirs_promoted test es theirs = by (lookup_entry test es) refl
    where
      by : (o : Option (String Z × List ℕ)) → lookup_entry test es ≡ o → AreTheirs (option_map_or (λ e. e ∷ remove_entry test es) o es)
      by None is = theirs
      by (Some e) is = (theirs_entry test es e theirs is, theirs_removed test es theirs)
