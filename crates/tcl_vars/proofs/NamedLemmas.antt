-- A map under text keys does what the list of its named entries says.
use Rattle.std.proofs.Common.{◌≡◌, ℕ, zero, suc, ◌<◌, Bool, true, false, cond, List, [], ◌∷◌, filter, length, get_or, Option, None, Some, is_some, slice_get, option_map, position, String, string_bytes, string_eq, bytes_eq, refl, sym, ap, subst, ◌∙◌, arith}
use Rattle.std.proofs.lemmas.List.Quantifiers.{position-Some}
use Rattle.std.specs.List.{IsDistinct}
use Rattle.std.specs.Map.{keys_of, values_of, lookup, remove_entry}
use Rattle.std_alloc.specs.String.{string_eq_equiv}
use Rattle.std_collections.proofs.HashLookup.{IsFirst, get_value, lookup-IsFirst}
use Rattle.indexmap.proofs.MapLemmas.{index-first}
use Rattle.indexmap.proofs.RemoveLemmas.{own_first}
use Rattle.indexmap.specs.IndexMap.{insert_entry, set_value_at}
use Rattle.tcl_vars.specs.Named.{named_entries}
use Rattle.tcl_vars.specs.Table.{value_at}

-- the test by which a map finds the key with these bytes
abbrev pub is_key : {Z : Type 0} → List ℕ → String Z → Bool
is_key name k = bytes_eq name (string_bytes k)

module _ {Z V : Type 0} where
  pub lookup-named_entries : (name : List ℕ) (es : List (String Z × V)) → lookup (bytes_eq name) (named_entries es) ≡ lookup (is_key name) es
  lookup-named_entries name [] = refl
  lookup-named_entries name (e ∷ es) = ap (cond (is_key name e.0) (Some e.1)) (lookup-named_entries name es)

  pub named_entries-remove_entry : (name : List ℕ) (es : List (String Z × V)) → named_entries (remove_entry (is_key name) es) ≡ remove_entry (bytes_eq name) (named_entries es)
  named_entries-remove_entry name [] = refl
  named_entries-remove_entry name (e ∷ es) = by (is_key name e.0) (named_entries-remove_entry name es)
    where
      by : (b : Bool) → named_entries (remove_entry (is_key name) es) ≡ remove_entry (bytes_eq name) (named_entries es)
          → named_entries (cond b es (e ∷ remove_entry (is_key name) es)) ≡ cond b (named_entries es) ((string_bytes e.0, e.1) ∷ remove_entry (bytes_eq name) (named_entries es))
      by true rest = refl
      by false rest = ap (λ l. (string_bytes e.0, e.1) ∷ l) rest

  pub named_entries-filter : (keeps : List ℕ → Bool) (es : List (String Z × V)) → named_entries (filter (λ e. keeps (string_bytes e.0)) es) ≡ filter (λ e. keeps e.0) (named_entries es)
  named_entries-filter keeps [] = refl
  named_entries-filter keeps (e ∷ es) = by (keeps (string_bytes e.0)) (named_entries-filter keeps es)
    where
      by : (b : Bool) → named_entries (filter (λ e. keeps (string_bytes e.0)) es) ≡ filter (λ e. keeps e.0) (named_entries es)
          → named_entries (cond b (e ∷ filter (λ e. keeps (string_bytes e.0)) es) (filter (λ e. keeps (string_bytes e.0)) es))
          ≡ cond b ((string_bytes e.0, e.1) ∷ filter (λ e. keeps e.0) (named_entries es)) (filter (λ e. keeps e.0) (named_entries es))
      by true rest = ap (λ l. (string_bytes e.0, e.1) ∷ l) rest
      by false rest = rest

  module _ (v : V) where
    pub named_entries-insert_entry : (k : String Z) (es : List (String Z × V)) → named_entries (insert_entry string_eq es k v) ≡ insert_entry bytes_eq (named_entries es) (string_bytes k) v
    named_entries-insert_entry k [] = refl
    named_entries-insert_entry k (e ∷ es) = by (string_eq k e.0) (named_entries-insert_entry k es)
      where
        by : (b : Bool) → named_entries (insert_entry string_eq es k v) ≡ insert_entry bytes_eq (named_entries es) (string_bytes k) v
            → named_entries (cond b ((e.0, v) ∷ es) (e ∷ insert_entry string_eq es k v))
            ≡ cond b ((string_bytes e.0, v) ∷ named_entries es) ((string_bytes e.0, e.1) ∷ insert_entry bytes_eq (named_entries es) (string_bytes k) v)
        by true rest = refl
        by false rest = ap (λ l. (string_bytes e.0, e.1) ∷ l) rest

    module _ (name : List ℕ) where
      at_first : (es : List (String Z × V)) (i : ℕ) (d : String Z) → i < length (keys_of es) → is_key name (get_or (keys_of es) i d) ≡ true
          → ((j : ℕ) → j < i → is_key name (get_or (keys_of es) j d) ≡ false)
          → named_entries (set_value_at es i v) ≡ insert_entry bytes_eq (named_entries es) name v
      at_first [] i d within holds fails = absurd (omega arith)
      at_first (e ∷ es) zero d within holds fails =
          sym (ap (λ b. cond b ((string_bytes e.0, v) ∷ named_entries es) ((string_bytes e.0, e.1) ∷ insert_entry bytes_eq (named_entries es) name v)) holds)
      at_first (e ∷ es) (suc i) d within holds fails =
          let here : is_key name e.0 ≡ false = fails 0 (omega arith) in
          ap (λ l. (string_bytes e.0, e.1) ∷ l) (at_first es i d (omega arith) holds (λ j h. fails (suc j) (omega arith)))
          ∙ sym (ap (λ b. cond b ((string_bytes e.0, v) ∷ named_entries es) ((string_bytes e.0, e.1) ∷ insert_entry bytes_eq (named_entries es) name v)) here)

      -- a write at the index where a name is found
      pub named_entries-set_value_at : (es : List (String Z × V)) (i : ℕ) → position (is_key name) (keys_of es) ≡ Some i → named_entries (set_value_at es i v) ≡ insert_entry bytes_eq (named_entries es) name v
      named_entries-set_value_at [] i found = absurd (cc)
      named_entries-set_value_at (e ∷ es) i found =
          let it = position-Some (is_key name) (keys_of (e ∷ es)) i e.0 found in
          at_first (e ∷ es) i e.0 it.0 it.1 it.2

-- the entries after an insertion, in the words of the calls
pub named_entries-inserted : {Z V : Type 0} (name : List ℕ) (value : V) (key : String Z) (old new : List (String Z × V)) → string_bytes key ≡ name → new ≡ insert_entry string_eq old key value
    → named_entries new ≡ insert_entry bytes_eq (named_entries old) name value
named_entries-inserted name value key old new same is = ap named_entries is ∙ named_entries-insert_entry value key old ∙ ap (λ n. insert_entry bytes_eq (named_entries old) n value) same

pub slice_get-named_entries : {Z V : Type 0} (es : List (String Z × V)) (i : ℕ) (e : String Z × V) → slice_get es i ≡ Some e → slice_get (named_entries es) i ≡ Some (string_bytes e.0, e.1)
slice_get-named_entries [] i e at = absurd (cc)
slice_get-named_entries (f ∷ fs) zero e at = let same : f ≡ e = cc in ap (λ x. Some (string_bytes x.0, x.1)) same
slice_get-named_entries (f ∷ fs) (suc i) e at = slice_get-named_entries fs i e at

-- a look-up that finds nothing
pub none_of : {V : Type 0} (o : Option V) → false ≡ is_some o → None ≡ o
none_of None h = refl
none_of (Some x) h = absurd (cc)

-- a name that stands at a place is found there, since names are distinct
pub stands_first : {Z V : Type 0} (name : List ℕ) (es : List (String Z × V)) (place : ℕ) (held : String Z) (value : V) → IsDistinct string_eq (keys_of es) → slice_get es place ≡ Some (held, value) → string_bytes held ≡ name
    → (position (is_key name) (keys_of es) ≡ Some place) × (slice_get (values_of es) place ≡ lookup (is_key name) es)
stands_first name es place held value unique at same =
    let first : IsFirst (is_key name) es place = subst (λ n. IsFirst (is_key n) es place) same (own_first string_eq string_eq_equiv es place held value unique at) in
    (index-first (is_key name) es place first, sym (lookup-IsFirst (is_key name) es place first))

-- and so is the value at the place
pub value_there : {Z V : Type 0} (es : List (String Z × V)) (place : ℕ) (held : String Z) (value : V) → slice_get es place ≡ Some (held, value) → slice_get (values_of es) place ≡ Some value
value_there es place held value at = get_value es place ∙ ap (option_map (λ e. e.1)) at

pub held_there : {Z V : Type 0} (name : List ℕ) (es : List (String Z × V)) (place : ℕ) (held : String Z) (value : V) → IsDistinct string_eq (keys_of es) → slice_get es place ≡ Some (held, value) → string_bytes held ≡ name
    → value_at (named_entries es) name ≡ Some value
held_there name es place held value unique at same =
    lookup-named_entries name es ∙ sym (stands_first name es place held value unique at same).1 ∙ value_there es place held value at
