-- A list that is read while its items are taken.
use Rattle.std.proofs.Common.{◌≡◌, ℕ, ◌+◌, ◌-◌, ◌<◌, ◌≤◌, Bool, false, nat_lt, List, [], ◌∷◌, drop, length, get_or, IsUtf8, Result, Ok, Err, refl, arith, ap, sym, subst, ◌∙◌, inl, inr}
use Rattle.std.proofs.lemmas.Bool.{cases_lt, lt-ltb, le-ltb}
use Rattle.std.proofs.lemmas.List.{drop-drop, length-drop}
use Rattle.tcl_text.specs.Backslash.{is_white, marks}
use Rattle.tcl_text.specs.ListCursor.{IsListFrom}
use Rattle.tcl_text.specs.ListString.{items_kept, items_read}
use Rattle.tcl_text.specs.Readings.{list_of, skip_white}
use Rattle.tcl_text.specs.Searching.{has_item}
use Rattle.tcl_text.specs.Splitting.{IsBehind, items_before}
use Rattle.tcl_text.proofs.ElementLemmas.{list_of-skip_white, skip_white_black, skip_white_is_drop, skip_white_within, some_item}
use Rattle.tcl_text.specs.declared.fault.ListFault.{ListFault}

-- what was read has items
known : (read : Result (List (List ℕ)) ListFault) (items : List (List ℕ)) → read ≡ Ok items → read ≡ Ok (items_read read)
known (Ok xs) items is = refl
known (Err f) items is = absurd cc

searched : (read : Result (List (List ℕ)) ListFault) (item : List ℕ) (found : Bool) → has_item item read ≡ Ok found → read ≡ Ok (items_read read)
searched (Ok xs) item found is = refl
searched (Err f) item found is = absurd cc

behind_known : (read : Result (List (List ℕ)) ListFault) (item : List ℕ) (items : List (List ℕ)) → items_before (item ∷ []) read ≡ Ok items → read ≡ Ok (items_read read)
behind_known (Ok xs) item items is = refl
behind_known (Err f) item items is = absurd cc

before_known : (read : Result (List (List ℕ)) ListFault) (item : List ℕ) (items : List (List ℕ)) → items_before (item ∷ []) read ≡ Ok items → items_read (items_before (item ∷ []) read) ≡ item ∷ items_read read
before_known (Ok xs) item items is = refl
before_known (Err f) item items is = absurd cc

whole : (text : List ℕ) → IsBehind text text
whole text = let none : length text - length text ≡ 0 = omega arith in rw none refl

-- what is left behind white space stands behind a place too
trimmed_behind : (text behind : List ℕ) → length behind ≤ length text → IsBehind text behind → IsBehind text (skip_white behind)
trimmed_behind text behind within is =
    let skipped = length behind - length (skip_white behind) in
    let at = length text - length behind in
    let fewer : length (skip_white behind) ≤ length behind = skip_white_within behind in
    let count : at + skipped ≡ length text - length (skip_white behind) = omega arith in
    sym (skip_white_is_drop behind) ∙ ap (λ (bs : List ℕ). drop skipped bs) is ∙ drop-drop skipped at text ∙ ap (λ (i : ℕ). drop i text) count

-- the place before a list that begins with no white space
place_of : (text rest : List ℕ) (items : List (List ℕ)) → length rest ≤ length text → IsBehind text rest → IsUtf8 rest → list_of rest ≡ Ok items → (0 < length rest → is_white (get_or rest 0 0) ≡ false) → IsListFrom text (length text - length rest)
place_of text rest items within is utf8 read black = record {
  within = omega arith;
  utf8 = subst IsUtf8 is utf8;
  read = known (list_of (drop (length text - length rest) text)) items (ap list_of (sym is) ∙ read);
  black = subst (λ (bs : List ℕ). 0 < length bs → is_white (get_or bs 0 0) ≡ false) is black;
}

-- the same of what stands behind white space
place_behind : (text behind trimmed : List ℕ) → length behind ≤ length text → IsBehind text behind → list_of behind ≡ Ok (items_read (list_of behind)) → trimmed ≡ skip_white behind → IsUtf8 trimmed → IsListFrom text (length text - length trimmed)
place_behind text behind trimmed within is read skipped utf8 =
    subst (λ (rest : List ℕ). IsListFrom text (length text - length rest)) (sym skipped)
    (place_of text (skip_white behind) (items_read (list_of behind)) (let fewer : length (skip_white behind) ≤ length behind = skip_white_within behind in omega arith)
    (trimmed_behind text behind within is) (subst IsUtf8 skipped utf8) (list_of-skip_white behind ∙ read) (skip_white_black behind))

items_behind : (text behind trimmed : List ℕ) → length behind ≤ length text → IsBehind text behind → trimmed ≡ skip_white behind → list_of behind ≡ list_of (drop (length text - length trimmed) text)
items_behind text behind trimmed within is skipped =
    sym (list_of-skip_white behind)
    ∙ subst (λ (rest : List ℕ). list_of (skip_white behind) ≡ list_of (drop (length text - length rest) text)) (sym skipped) (ap list_of (trimmed_behind text behind within is))

-- ── all items ──

pub begins : (text trimmed item : List ℕ) (found : Bool) → has_item item (list_of text) ≡ Ok found → trimmed ≡ skip_white text → IsUtf8 trimmed → IsListFrom text (length text - length trimmed)
begins text trimmed item found told skipped utf8 = place_behind text text trimmed (omega arith) (whole text) (searched (list_of text) item found told) skipped utf8

pub begins_items : (text trimmed item : List ℕ) (found : Bool) → has_item item (list_of text) ≡ Ok found → trimmed ≡ skip_white text → list_of text ≡ Ok (items_kept (drop (length text - length trimmed) text))
begins_items text trimmed item found told skipped =
    searched (list_of text) item found told
    ∙ ap (λ (read : Result (List (List ℕ)) ListFault). let all : Result (List (List ℕ)) ListFault = Ok (items_read read) in all) (items_behind text text trimmed (omega arith) (whole text) skipped)

-- ── the first item ──

empty_items : (rest : List ℕ) → length rest ≡ 0 → items_kept rest ≡ []
unfolding list_of marks
empty_items [] none = refl
empty_items (c ∷ cs) none = absurd (omega arith)

module _ (text rest : List ℕ) (place : ℕ) (h : IsListFrom text place) (is : rest ≡ drop place text) where
  pub rest_black : 0 < length rest → is_white (get_or rest 0 0) ≡ false
  rest_black = subst (λ (bs : List ℕ). 0 < length bs → is_white (get_or bs 0 0) ≡ false) (sym is) h.black

  pub rest_short : length text ≤ 65536 → length rest ≤ 65536
  rest_short short = omega (arith, ap length is, length-drop place text, short)

  pub none_left : length rest ≡ 0 → items_kept (drop place text) ≡ []
  none_left none = empty_items (drop place text) (ap length (sym is) ∙ none)

  rest_read : list_of rest ≡ Ok (items_kept (drop place text))
  rest_read = ap list_of is ∙ h.read

  module _ (item behind trimmed : List ℕ) (shorter : length behind < length rest) (read : list_of rest ≡ items_before (item ∷ []) (list_of behind)) (stands : IsBehind rest behind) (skipped : trimmed ≡ skip_white behind) where
    behind_within : length behind ≤ length text
    behind_within = omega (arith, ap length is, length-drop place text, shorter)

    behind_text : IsBehind text behind
    behind_text =
        let taken = length rest - length behind in
        let within : place ≤ length text = h.within in
        let count : place + taken ≡ length text - length behind = omega (arith, ap length is, length-drop place text, shorter, within) in
        stands ∙ ap (λ (bs : List ℕ). drop taken bs) is ∙ drop-drop taken place text ∙ ap (λ (i : ℕ). drop i text) count

    pub taken_place : IsUtf8 trimmed → IsListFrom text (length text - length trimmed)
    taken_place utf8 = place_behind text behind trimmed behind_within behind_text (behind_known (list_of behind) item _ (sym read ∙ rest_read)) skipped utf8

    pub taken_items : items_kept (drop place text) ≡ item ∷ items_kept (drop (length text - length trimmed) text)
    taken_items =
        ap (λ (bs : List ℕ). items_kept bs) (sym is) ∙ ap (λ (r : Result (List (List ℕ)) ListFault). items_read r) read
        ∙ before_known (list_of behind) item _ (sym read ∙ rest_read)
        ∙ ap (λ (r : Result (List (List ℕ)) ListFault). item ∷ items_read r) (items_behind text behind trimmed behind_within behind_text skipped)

-- ── whether items are left ──

pub more_left : (text : List ℕ) (place : ℕ) → IsListFrom text place → nat_lt place (length text) ≡ nat_lt 0 (length (items_kept (drop place text)))
more_left text place h = elim (cases_lt place (length text)) [
  | inl inside ↦
      let some : 0 < length (drop place text) = omega (arith, length-drop place text, inside) in
      lt-ltb place (length text) inside ∙ sym (lt-ltb 0 (length (items_kept (drop place text))) (some_item (drop place text) (items_kept (drop place text)) some (h.black some) h.read))
  | inr past ↦
      let none : length (drop place text) ≡ 0 = omega (arith, length-drop place text, past) in
      le-ltb place (length text) past ∙ sym (ap (λ (xs : List (List ℕ)). nat_lt 0 (length xs)) (empty_items (drop place text) none))
]
