-- Several pairs of one name, as words spell them, and as a set has them.
use Rattle.std.proofs.Common.{◌≡◌, ℕ, ◌<◌, Bool, true, false, true≢false, cond, ◌&&◌, ◌||◌, not, Ok, Err, List, [], ◌∷◌, ◌++◌, length, refl, sym, ap, ◌∙◌, arith}
use Rattle.std.specs.Prelude.{filter}
use Rattle.std.specs.List.{list_any}
use Rattle.std.specs.Str.{bytes_eq}
use Rattle.std.proofs.lemmas.List.Folds.{list_any-append}
use Rattle.std.proofs.lemmas.Slice.Eq.{bytes_eq-Decides}
use Rattle.indexmap.specs.IndexSet.{insert_all, insert_key}
use Rattle.tk_sequences.specs.Words.{name_in}
use Rattle.tk_sequences.specs.Writing.{canonical}
use Rattle.tk_sequences.specs.declared.sequence.Sequence.{Sequence}
use Rattle.tk_virtual.specs.Parse.{parsed}
use Rattle.tk_virtual.specs.Several.{is_one_of, meant_once, without_these}
use Rattle.tk_base.specs.Steps.{◌>>=◌}
use Rattle.tk_virtual.specs.Virtual.{OrFault, all_deleted, has_name, is_same, name_or_fault, not_virtual, pair_meant, pair_of, pair_with, pairs_meant, with_sequence, without_pair, without_pairs}
use Rattle.tk_virtual.specs.declared.fault.VirtualFault.{VirtualFault}
use Rattle.tk_virtual.specs.declared.pair.Pair.{Pair}
use Rattle.tk_virtual.proofs.OnceLemmas.{same_back}
use Rattle.tk_virtual.proofs.SameLemmas.{same_parts}

or_false : (a : Bool) → (a || false) ≡ a
or_false true = refl
or_false false = refl

or_assoc : (a b c : Bool) → (a || (b || c)) ≡ ((a || b) || c)
or_assoc true b c = refl
or_assoc false b c = refl

-- ---- a set

-- whether a set has a pair hangs on its name and its canonical form
abbrev is_of : List ℕ → List ℕ → Pair → Bool
is_of name written pair = bytes_eq pair.name name && bytes_eq (canonical pair.sequence) written

-- what is there after one more was put in
with_one : (keys : List Pair) (pair sought : Pair) → list_any (is_same sought) (insert_key is_same keys pair) ≡ (list_any (is_same sought) keys || is_same sought pair)
with_one keys pair sought = by (list_any (is_same pair) keys) refl
  where
    same : (t : Bool) → is_same sought pair ≡ t → list_any (is_same pair) keys ≡ true → list_any (is_same sought) keys ≡ (list_any (is_same sought) keys || t)
    same true is there =
        let parts = same_parts sought pair is in
        let found : list_any (is_same sought) keys ≡ true =
        ap (λ name. list_any (is_of name (canonical sought.sequence)) keys) (sym parts.0) ∙ ap (λ written. list_any (is_of pair.name written) keys) (sym parts.1) ∙ there in
        found ∙ sym (ap (λ t. t || true) found)
    same false is there = sym (or_false (list_any (is_same sought) keys))

    by : (t : Bool) → list_any (is_same pair) keys ≡ t → list_any (is_same sought) (cond t keys (keys ++ pair ∷ [])) ≡ (list_any (is_same sought) keys || is_same sought pair)
    by true there = same (is_same sought pair) refl there
    by false none = list_any-append (is_same sought) keys (pair ∷ []) ∙ ap (λ t. list_any (is_same sought) keys || t) (or_false (is_same sought pair))

-- a set of a list has what the list has
all_there : (keys pairs : List Pair) (sought : Pair) → list_any (is_same sought) (insert_all is_same keys pairs) ≡ (list_any (is_same sought) keys || list_any (is_same sought) pairs)
all_there keys [] sought = sym (or_false (list_any (is_same sought) keys))
all_there keys (pair ∷ pairs) sought =
    all_there (insert_key is_same keys pair) pairs sought
    ∙ ap (λ t. t || list_any (is_same sought) pairs) (with_one keys pair sought)
    ∙ sym (or_assoc (list_any (is_same sought) keys) (is_same sought pair) (list_any (is_same sought) pairs))

-- ---- the pairs that words spell

pub one_without : (wanted : Pair) (pairs : List Pair) → without_pairs (wanted ∷ []) pairs ≡ without_pair wanted pairs
one_without wanted [] = refl
one_without wanted (pair ∷ pairs) =
    ap (λ t. cond (not t) (pair ∷ without_pairs (wanted ∷ []) pairs) (without_pairs (wanted ∷ []) pairs)) (or_false (is_same pair wanted) ∙ same_back pair wanted)
    ∙ ap (λ l. cond (not (is_same wanted pair)) (pair ∷ l) l) (one_without wanted pairs)

pub one_meant : (word text : List ℕ) (pair : Pair) (pairs : List Pair) → pair_meant word text ≡ Ok pair → all_deleted word (text ∷ []) pairs ≡ Ok (without_pair pair pairs)
one_meant word text pair pairs is =
    ap (λ meant. (meant >>= λ pair. (Ok (pair ∷ []))) >>= λ wanted. Ok (without_pairs wanted pairs)) is ∙ ap (λ (l : List Pair). Ok l) (one_without pair pairs)

pub none_meant : (word text : List ℕ) (fault : VirtualFault) (pairs : List Pair) → pair_meant word text ≡ Err fault → all_deleted word (text ∷ []) pairs ≡ Err fault
none_meant word text fault pairs is = ap (λ meant. (meant >>= λ pair. (Ok (pair ∷ []))) >>= λ wanted. Ok (without_pairs wanted pairs)) is

-- all have the name that the word has
name_kept : (name : List ℕ) (sequence : OrFault Sequence) (pair : Pair) → with_sequence name sequence ≡ Ok pair → pair.name ≡ name
name_kept name (Ok sequence) pair is = let same : pair_of name sequence ≡ pair = cc in sym (ap (λ (p : Pair). p.name) same)
name_kept name (Err fault) pair is = absurd (cc)

pair_named : (word text name : List ℕ) (pair : Pair) → name_or_fault word (name_in word) ≡ Ok name → pair_meant word text ≡ Ok pair → pair.name ≡ name
unfolding pair_meant
pair_named word text name pair named is = name_kept name (not_virtual (parsed text)) pair (sym (ap (λ n. pair_with n text) named) ∙ is)

all_named : (word name : List ℕ) → name_or_fault word (name_in word) ≡ Ok name → (texts : List (List ℕ)) (pairs : List Pair) → pairs_meant word texts ≡ Ok pairs
    → (sought : Pair) → list_any (is_same sought) pairs ≡ true → has_name name sought ≡ true
all_named word name named [] pairs is sought there = absurd (let none : pairs ≡ [] = cc in true≢false (sym there ∙ ap (list_any (is_same sought)) none))
all_named word name named (text ∷ texts) pairs is sought there =
    by (pair_meant word text) (pairs_meant word texts) refl refl is (λ later is there. all_named word name named texts later is sought there)
  where
    by : (first : OrFault Pair) (more : OrFault (List Pair)) → pair_meant word text ≡ first → pairs_meant word texts ≡ more
        → (first >>= λ pair. more >>= λ pairs. Ok (pair ∷ pairs)) ≡ Ok pairs
        → ((later : List Pair) → pairs_meant word texts ≡ Ok later → list_any (is_same sought) later ≡ true → has_name name sought ≡ true)
        → has_name name sought ≡ true
    by (Err fault) more one others is rest = absurd (cc)
    by (Ok pair) (Err fault) one others is rest = absurd (cc)
    by (Ok pair) (Ok later) one others is rest =
        let these : pairs ≡ pair ∷ later = cc in
        split (is_same sought pair) refl (sym (ap (list_any (is_same sought)) these) ∙ there)
      where
        split : (t : Bool) → is_same sought pair ≡ t → (t || list_any (is_same sought) later) ≡ true → has_name name sought ≡ true
        split true same there = (bytes_eq-Decides sought.name name).1 (sym (same_parts sought pair same).0 ∙ pair_named word text name pair named one)
        split false other there = rest later others there

-- so to be the same as one of them is to be one of them that has the name
module _ (word name : List ℕ) (named : name_or_fault word (name_in word) ≡ Ok name) (texts : List (List ℕ)) (wanted : List Pair) (is : pairs_meant word texts ≡ Ok wanted) where
  these_are : (pairs : List Pair) → without_these name (insert_all is_same [] wanted) pairs ≡ without_pairs wanted pairs
  these_are [] = refl
  these_are (pair ∷ pairs) =
      ap (λ t. cond (not t) (pair ∷ without_these name once pairs) (without_these name once pairs)) (by (list_any (is_same pair) wanted) refl)
      ∙ ap (λ l. cond (not (list_any (is_same pair) wanted)) (pair ∷ l) l) (these_are pairs)
    where
      once : List Pair
      once = insert_all is_same [] wanted

      and_false : (a : Bool) → (a && false) ≡ false
      and_false true = refl
      and_false false = refl

      by : (t : Bool) → list_any (is_same pair) wanted ≡ t → is_one_of name once pair ≡ list_any (is_same pair) wanted
      by true there =
          ap (λ t. has_name name pair && t) (all_there [] wanted pair) ∙ ap (λ t. t && list_any (is_same pair) wanted) (all_named word name named texts wanted is pair there)
      by false none = ap (λ t. has_name name pair && t) (all_there [] wanted pair ∙ none) ∙ and_false (has_name name pair) ∙ sym none

pub all_meant : (word name : List ℕ) (texts : List (List ℕ)) (keys pairs new : List Pair) → name_or_fault word (name_in word) ≡ Ok name → meant_once word texts ≡ Ok keys
    → new ≡ without_these name keys pairs → all_deleted word texts pairs ≡ Ok new
all_meant word name texts keys pairs new named is left = by (pairs_meant word texts) refl (sym is)
  where
    by : (meant : OrFault (List Pair)) → pairs_meant word texts ≡ meant → Ok keys ≡ (meant >>= λ pairs. Ok (insert_all is_same [] pairs)) → (meant >>= λ wanted. Ok (without_pairs wanted pairs)) ≡ Ok new
    by (Err fault) meant once = absurd (cc)
    by (Ok wanted) meant once =
        let same : keys ≡ insert_all is_same [] wanted = cc in
        ap (λ (l : List Pair). Ok l) (sym (left ∙ ap (λ keys. without_these name keys pairs) same ∙ these_are word name named texts wanted meant pairs))

-- where the name is refused, so is the first pair
pub name_refused : (word : List ℕ) (texts : List (List ℕ)) (fault : VirtualFault) (pairs : List Pair) → 0 < length texts → name_or_fault word (name_in word) ≡ Err fault → all_deleted word texts pairs ≡ Err fault
unfolding pair_meant
name_refused word [] fault pairs some refused = absurd (omega arith)
name_refused word (text ∷ texts) fault pairs some refused =
    ap (λ name. (pair_with name text >>= λ pair. pairs_meant word texts >>= λ pairs. Ok (pair ∷ pairs)) >>= λ wanted. Ok (without_pairs wanted pairs)) refused

-- where a pair is refused
pub pairs_refused : (word : List ℕ) (texts : List (List ℕ)) (fault : VirtualFault) (pairs : List Pair) → meant_once word texts ≡ Err fault → all_deleted word texts pairs ≡ Err fault
pairs_refused word texts fault pairs refused = by (pairs_meant word texts) (sym refused)
  where
    by : (meant : OrFault (List Pair)) → Err fault ≡ (meant >>= λ pairs. Ok (insert_all is_same [] pairs)) → (meant >>= λ wanted. Ok (without_pairs wanted pairs)) ≡ Err fault
    by (Err other) told = ap (λ (fault : VirtualFault). Err fault) (let same : other ≡ fault = cc in same)
    by (Ok wanted) told = absurd (cc)
