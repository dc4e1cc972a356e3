-- Lemmas on the tables of a bench.
use Rattle.std.proofs.Common.{◌≡◌, ℕ, zero, suc, ◌+◌, ◌<◌, Bool, true, false, not, ◌||◌, cond, List, [], ◌∷◌, ◌++◌, length, get_or, drop, map, Option, Some, None, IfSome, Bor, String, Global, string_bytes, refl, sym, ap, subst, append_assoc, ◌∙◌}
use Rattle.std.specs.List.{list_any}
use Rattle.std.specs.Prelude.{find, slice_get}
use Rattle.std.specs.Str.{bytes_eq}
use Rattle.toml.specs.Data.{Data, Members, item}
use Rattle.toml.specs.View.{items_view, members_view, table_view, view}
use Rattle.toml.specs.declared.value.Value.{Value, Table}
use Rattle.toml.proofs.Views.{items_view-drop, view-Table}
use Rattle.panels_text.specs.Tables.{keys_of, onto_tables, tables_in, tables_onto}
use Rattle.panels_text.specs.Words.{is_known, words_of}

onto_push : (tables : List Members) (first : Members) (rest : Option (List Members)) → tables_onto tables (onto_tables first rest) ≡ tables_onto (tables ++ first ∷ []) rest
onto_push tables first None = refl
onto_push tables first (Some others) = ap Some (sym (append_assoc tables (first ∷ []) others))

map_push : {A B : Type 0} (f : A → B) (xs : List A) (x : A) → map f (xs ++ x ∷ []) ≡ map f xs ++ f x ∷ []
map_push f [] x = refl
map_push f (y ∷ xs) x = ap (λ rest. f y ∷ rest) (map_push f xs x)

-- the tables before, and one more that stands next
pub tables_step : {A : Type 0} (members : A → Members) (parts : List A) (part : A) (values : List Value) (i : ℕ) (d : Value) (inner : _) (all : Option (List Members)) → i < length values
    → get_or values i d ≡ Table inner → members part ≡ table_view inner
    → tables_onto (map members parts) (tables_in (items_view (drop i values))) ≡ all → tables_onto (map members (parts ++ part ∷ [])) (tables_in (items_view (drop (i + 1) values))) ≡ all
tables_step members parts part values i d inner all lt is own same =
    let P : _ → Type 0 = λ items. tables_onto (map members parts) (tables_in items) ≡ all in
    let at = subst P (items_view-drop values i d lt) same in
    let Q : Data → Type 0 = λ value. tables_onto (map members parts) (tables_in (item value (items_view (drop (i + 1) values)))) ≡ all in
    let here : tables_onto (map members parts) (onto_tables (table_view inner) (tables_in (items_view (drop (i + 1) values)))) ≡ all = subst Q (ap view is ∙ view-Table inner) at in
    let R : List Members → Type 0 = λ tables. tables_onto tables (tables_in (items_view (drop (i + 1) values))) ≡ all in
    let pushed : map members parts ++ table_view inner ∷ [] ≡ map members (parts ++ part ∷ []) = sym (map_push members parts part ∙ ap (λ last. map members parts ++ last ∷ []) own) in
    subst R pushed (sym (onto_push (map members parts) (table_view inner) _) ∙ here)

-- what holds of each element by its place, and of one more
pub places_step : {A : Type 0} (P : ℕ → A → Type 0) (xs : List A) (x : A) → ((k : ℕ) → IfSome (slice_get xs k) (P k)) → P (length xs) x → (k : ℕ) → IfSome (slice_get (xs ++ x ∷ []) k) (P k)
places_step P [] x each here zero = here
places_step P [] x each here (suc k) = tt
places_step P (y ∷ xs) x each here zero = each 0
places_step P (y ∷ xs) x each here (suc k) = places_step (λ n. P (suc n)) xs x (λ n. each (suc n)) here k

pub known_words : (word : List ℕ) (known : List (Bor (List ℕ))) → is_known word known ≡ list_any (λ other. bytes_eq other word) (words_of known)
known_words word [] = refl
known_words word (other ∷ known) = ap (λ rest. bytes_eq other.now word || rest) (known_words word known)

-- a key that is known isn't the first that isn't
pub key_step : (known : List (Bor (List ℕ))) (left others : List (String Global × Value)) (entry : String Global × Value) (all : Option (List ℕ)) → left ≡ entry ∷ others → is_known (string_bytes entry.0) known ≡ true
    → find (λ key. not (list_any (λ other. bytes_eq other key) (words_of known))) (keys_of (members_view left)) ≡ all
    → find (λ key. not (list_any (λ other. bytes_eq other key) (words_of known))) (keys_of (members_view others)) ≡ all
key_step known left others entry all here is same =
    let P : List (String Global × Value) → Type 0 = λ entries. find (λ key. not (list_any (λ other. bytes_eq other key) (words_of known))) (keys_of (members_view entries)) ≡ all in
    let Q : Bool → Type 0 = λ b. cond (not b) (Some (string_bytes entry.0)) (find (λ key. not (list_any (λ other. bytes_eq other key) (words_of known))) (keys_of (members_view others))) ≡ all in
    subst Q (sym (known_words (string_bytes entry.0) known) ∙ is) (subst P here same)

-- and one that isn't is the first
pub key_found : (known : List (Bor (List ℕ))) (left others : List (String Global × Value)) (entry : String Global × Value) (all : Option (List ℕ)) → left ≡ entry ∷ others → is_known (string_bytes entry.0) known ≡ false
    → find (λ key. not (list_any (λ other. bytes_eq other key) (words_of known))) (keys_of (members_view left)) ≡ all → all ≡ Some (string_bytes entry.0)
key_found known left others entry all here is same =
    let P : List (String Global × Value) → Type 0 = λ entries. find (λ key. not (list_any (λ other. bytes_eq other key) (words_of known))) (keys_of (members_view entries)) ≡ all in
    let Q : Bool → Type 0 = λ b. cond (not b) (Some (string_bytes entry.0)) (find (λ key. not (list_any (λ other. bytes_eq other key) (words_of known))) (keys_of (members_view others))) ≡ all in
    sym (subst Q (sym (known_words (string_bytes entry.0) known) ∙ is) (subst P here same))
