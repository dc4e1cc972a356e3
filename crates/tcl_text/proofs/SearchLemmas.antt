-- A list is searched for an item, one element after another.
use Rattle.std.proofs.Common.{◌≡◌, ℕ, zero, suc, ◌+◌, ◌-◌, ◌<◌, ◌≤◌, Bool, true, false, ◌||◌, ◌&&◌, nat_lt, List, [], ◌∷◌, take, drop, length, get_or, IsUtf8, Result, Ok, Err, bytes_eq, refl, arith, add-one, ap, sym, subst, ◌∙◌, inl, inr}
use Rattle.std.specs.Str.{IsCharBoundary}
use Rattle.std.proofs.lemmas.Bool.{cases_lt, lt-ltb, le-ltb, false_from_ne_true}
use Rattle.std.proofs.lemmas.List.{drop_more, drop-drop, get_or-drop, length-drop, length-take}
use Rattle.std.proofs.lemmas.Str.{IsCharBoundary-start, IsCharBoundary-after_ascii, IsCharBoundary-from_rest, IsUtf8-drop}
use Rattle.tcl_text.specs.Backslash.{is_white, kind_of, marks}
use Rattle.tcl_text.specs.Readings.{in_bare, list_of}
use Rattle.tcl_text.specs.Searching.{has_item}
use Rattle.tcl_text.specs.SearchSteps.{Passes, PassesFront, or_found}
use Rattle.tcl_text.specs.Splitting.{ReadsTo, begins_bare_element, items_before}
use Rattle.tcl_text.proofs.ElementLemmas.{bare_list, list_of-behind, white_kind}
use Rattle.tcl_text.proofs.IntegerReading.{white_low}
use Rattle.tcl_text.proofs.SplittingLemmas.{ReadsTo-start, run_turn, told as kind_told}
use Rattle.tcl_text.specs.declared.fault.ListFault.{ListFault}
use Rattle.tcl_text.specs.declared.splitting.ByteKind.{ByteKind}
use Rattle.tcl_text.specs.declared.splitting.ByteKind.TheVariants.{White, CloseBrace, Other}

-- ── what was found in front ──

pub or_found-false : (told : Result Bool ListFault) → or_found false told ≡ told
or_found-false (Ok found) = refl
or_found-false (Err fault) = refl

or_found-or_found : (a b : Bool) (told : Result Bool ListFault) → or_found a (or_found b told) ≡ or_found (a || b) told
or_found-or_found true b (Ok found) = refl
or_found-or_found false b (Ok found) = refl
or_found-or_found true b (Err fault) = refl
or_found-or_found false b (Err fault) = refl

has_item-before : (item element : List ℕ) (read : Result (List (List ℕ)) ListFault) → has_item item (items_before (element ∷ []) read) ≡ or_found (bytes_eq element item) (has_item item read)
has_item-before item element (Ok items) = refl
has_item-before item element (Err fault) = refl

-- an element in front, and what was found before it and behind it
found_on : (item text rest element behind : List ℕ) (found : Bool) → has_item item (list_of text) ≡ or_found found (has_item item (list_of rest)) → list_of rest ≡ items_before (element ∷ []) (list_of behind)
    → has_item item (list_of text) ≡ or_found (found || bytes_eq element item) (has_item item (list_of behind))
found_on item text rest element behind found told read =
    told
    ∙ ap (λ (list : Result (List (List ℕ)) ListFault). or_found found (has_item item list)) read
    ∙ ap (or_found found) (has_item-before item element (list_of behind))
    ∙ or_found-or_found found (bytes_eq element item) (has_item item (list_of behind))

pub Passes-item : (item text rest element behind left : List ℕ) (found same among : Bool) → Passes item text rest found → length behind < length rest → list_of rest ≡ items_before (element ∷ []) (list_of behind) → same ≡ bytes_eq element item → Passes item behind left among
    → Passes item text left ((found || same) || among)
Passes-item item text rest element behind left found same among h shorter read is next =
    let equal : Bool = bytes_eq element item in
    record {
      told =
          found_on item text rest element behind found h.told read
          ∙ ap (or_found (found || equal)) next.told
          ∙ or_found-or_found (found || equal) among (has_item item (list_of left))
          ∙ ap (λ (b : Bool). or_found ((found || b) || among) (has_item item (list_of left))) (sym is);
      within = (let before : length rest ≤ length text = h.within in let after : length left ≤ length behind = next.within in omega arith);
      black = next.black;
    }

or_nothing : (b : Bool) → (b || false) ≡ b
or_nothing true = refl
or_nothing false = refl

has_none : (item rest : List ℕ) → length rest ≡ 0 → has_item item (list_of rest) ≡ Ok false
unfolding list_of marks
has_none item [] none = refl
has_none item (c ∷ cs) none = absurd (omega arith)

pub Passes-end : (item text rest : List ℕ) (found : Bool) → Passes item text rest found → length rest ≡ 0 → has_item item (list_of text) ≡ Ok found
Passes-end item text rest found h none = h.told ∙ ap (or_found found) (has_none item rest none) ∙ ap Ok (or_nothing found)

-- ── items of plain bytes ──

-- a byte of this kind stands for itself in an item, also in front
abbrev pub is_plain : ByteKind → Bool
is_plain CloseBrace = true
is_plain Other = true
is_plain other = false

pub plain_black : (b : ℕ) → is_plain (kind_of b) ≡ true → is_white b ≡ false
plain_black b plain = false_from_ne_true (is_white b) (λ white. let e : false ≡ true = sym (ap is_plain (white_kind b white)) ∙ plain in absurd cc)

plain_no_backslash : (b : ℕ) → is_plain (kind_of b) ≡ true → b ≡ 92 → ⊥
unfolding kind_of
plain_no_backslash b plain is = let e : false ≡ true = sym (ap (λ (byte : ℕ). is_plain (kind_of byte)) is) ∙ plain in absurd cc

plain_begins : (k : ByteKind) → is_plain k ≡ true → begins_bare_element k ≡ true
plain_begins CloseBrace plain = refl
plain_begins Other plain = refl
plain_begins k plain = absurd cc

-- plain bytes from a place of a text up to another
abbrev pub ArePlain : List ℕ → ℕ → ℕ → Type 0
ArePlain text start at = (k : ℕ) → start ≤ k → k < at → is_plain (kind_of (get_or text k 0)) ≡ true

plain_reads : (text : List ℕ) (n : ℕ) → n ≤ length text → ArePlain text 0 n → (m : ℕ) → m ≤ n → ReadsTo in_bare text m (take m text) in_bare
plain_reads text n fits plain zero le = ReadsTo-start in_bare text
plain_reads text n fits plain (suc m) le =
    let here : is_plain (kind_of (get_or text m 0)) ≡ true = plain m (omega arith) (omega arith) in
    subst (λ (k : ℕ). ReadsTo in_bare text k (take k text) in_bare) (add-one m)
    (run_turn false text m (omega arith) (plain_no_backslash (get_or text m 0) here) (plain_black (get_or text m 0) here) (plain_reads text n fits plain m (omega arith)))

plain_word : (text : List ℕ) (n : ℕ) → 0 < n → n ≤ length text → ArePlain text 0 n → (n < length text → is_white (get_or text n 0) ≡ true) → list_of text ≡ items_before (take n text ∷ []) (list_of (drop n text))
plain_word text n some fits plain end =
    bare_list text (take n text) n (omega arith) (plain_begins (kind_of (get_or text 0 0)) (plain 0 (omega arith) some)) (plain_reads text n fits plain n (omega arith)) end

-- the same from a place on
word_at : (text : List ℕ) (start at : ℕ) → start < at → at ≤ length text → ArePlain text start at → (at < length text → is_white (get_or text at 0) ≡ true) → list_of (drop start text) ≡ items_before (take (at - start) (drop start text) ∷ []) (list_of (drop at text))
word_at text start at some fits plain end =
    let n = at - start in
    let count : start + n ≡ at = omega arith in
    let within : n ≤ length (drop start text) = omega (arith, length-drop start text) in
    plain_word (drop start text) n (omega arith) within
    (λ k low high. subst (λ (b : ℕ). is_plain (kind_of b) ≡ true) (sym (get_or-drop start text k 0)) (plain (start + k) (omega arith) (omega arith)))
    (λ inside. subst (λ (b : ℕ). is_white b ≡ true) (sym (get_or-drop start text n 0 ∙ ap (λ (k : ℕ). get_or text k 0) count)) (end (omega (arith, length-drop start text, inside))))
    ∙ ap (λ (rest : List ℕ). items_before (take n (drop start text) ∷ []) (list_of rest)) (drop-drop n start text ∙ ap (λ (k : ℕ). drop k text) count)

white_behind : (text : List ℕ) (at : ℕ) → at < length text → is_white (get_or text at 0) ≡ true → list_of (drop at text) ≡ list_of (drop (at + 1) text)
white_behind text at inside white = ap list_of (drop_more text at 0 inside) ∙ list_of-behind (get_or text at 0) (drop (at + 1) text) white

-- ── how far a list was searched ──

pub record PassesTo (item text : List ℕ) (start at : ℕ) (found : Bool) : Type 0 where
  pub told : has_item item (list_of text) ≡ or_found found (has_item item (list_of (drop start text)))
  pub within : start ≤ at
  pub plain : ArePlain text start at
  pub cut : IsUtf8 text → IsCharBoundary text start

pub PassesTo-start : (item text : List ℕ) → PassesTo item text 0 0 false
PassesTo-start item text = record {
  told = sym (or_found-false (has_item item (list_of text)));
  within = omega arith;
  plain = λ k low high. absurd (omega (arith, low, high));
  cut = IsCharBoundary-start text;
}

pub PassesTo-plain : (item text : List ℕ) (start at : ℕ) (found : Bool) → PassesTo item text start at found → is_plain (kind_of (get_or text at 0)) ≡ true → PassesTo item text start (at + 1) found
PassesTo-plain item text start at found h here =
    let before : start ≤ at = h.within in
    record {
      told = h.told;
      within = omega arith;
      plain = λ k low high. elim (cases_lt k at) [
        | inl inside ↦ h.plain k low inside
        | inr past ↦ let is : at ≡ k = omega (arith, high, past) in subst (λ (i : ℕ). is_plain (kind_of (get_or text i 0)) ≡ true) is here
      ];
      cut = h.cut;
    }

-- whether the word in front of white space is the item
abbrev pub equals_word : List ℕ → List ℕ → Bool
equals_word word item = nat_lt 0 (length word) && bytes_eq word item

word_found : (item text : List ℕ) (start at : ℕ) (found : Bool) → PassesTo item text start at found → at < length text → is_white (get_or text at 0) ≡ true
    → has_item item (list_of text) ≡ or_found (found || equals_word (take (at - start) (drop start text)) item) (has_item item (list_of (drop (at + 1) text)))
word_found item text start at found h inside white =
    let before : start ≤ at = h.within in
    let word = take (at - start) (drop start text) in
    let long : length word ≡ at - start = omega (arith, length-take (at - start) (drop start text), length-drop start text) in
    let behind : list_of (drop at text) ≡ list_of (drop (at + 1) text) = white_behind text at inside white in
    elim (cases_lt start at) [
      | inl some ↦
          found_on item text (drop start text) word (drop at text) found h.told (word_at text start at some (omega arith) h.plain (λ _. white))
          ∙ ap (λ (b : Bool). or_found (found || (b && bytes_eq word item)) (has_item item (list_of (drop at text)))) (sym (lt-ltb 0 (length word) (omega (arith, long, some))))
          ∙ ap (λ (list : Result (List (List ℕ)) ListFault). or_found (found || equals_word word item) (has_item item list)) behind
      | inr none ↦
          let same : start ≡ at = omega (arith, none) in
          h.told
          ∙ ap (λ (k : ℕ). or_found found (has_item item (list_of (drop k text)))) same
          ∙ ap (λ (list : Result (List (List ℕ)) ListFault). or_found found (has_item item list)) behind
          ∙ ap (λ (b : Bool). or_found b (has_item item (list_of (drop (at + 1) text)))) (sym (or_nothing found))
          ∙ ap (λ (b : Bool). or_found (found || (b && bytes_eq word item)) (has_item item (list_of (drop (at + 1) text)))) (sym (le-ltb 0 (length word) (omega (arith, long, none))))
    ]

pub PassesTo-white : (item text : List ℕ) (start at : ℕ) (found same : Bool) → PassesTo item text start at found → at < length text → is_white (get_or text at 0) ≡ true → same ≡ equals_word (take (at - start) (drop start text)) item
    → PassesTo item text (at + 1) (at + 1) (found || same)
PassesTo-white item text start at found same h inside white is = record {
  told = word_found item text start at found h inside white ∙ ap (λ (b : Bool). or_found (found || b) (has_item item (list_of (drop (at + 1) text)))) (sym is);
  within = omega arith;
  plain = λ k low high. absurd (omega (arith, low, high));
  cut = λ utf8. IsCharBoundary-after_ascii text at utf8 inside (let low : get_or text at 0 ≤ 32 = white_low (get_or text at 0) white in omega arith);
}

-- where it ends, no white space stands in front
pub PassesTo-black : (item text : List ℕ) (start at : ℕ) (found : Bool) → PassesTo item text start at found → (at < length text → is_white (get_or text at 0) ≡ false) → at ≤ length text → start < length text → is_white (get_or text start 0) ≡ false
PassesTo-black item text start at found h end fits inside = elim (cases_lt start at) [
  | inl some ↦ plain_black (get_or text start 0) (h.plain start (omega arith) some)
  | inr none ↦
      let before : start ≤ at = h.within in
      let same : at ≡ start = omega (arith, none) in
      subst (λ (k : ℕ). is_white (get_or text k 0) ≡ false) same (end (omega (arith, same, inside)))
]

pub Passes-front : (item text rest : List ℕ) (place : ℕ) (found : Bool) → has_item item (list_of text) ≡ or_found found (has_item item (list_of (drop place text))) → place ≤ length text → (place < length text → is_white (get_or text place 0) ≡ false) → rest ≡ drop place text → Passes item text rest found
Passes-front item text rest place found told fits black is =
    let count : place + 0 ≡ place = omega arith in
    record {
      told = told ∙ ap (λ (xs : List ℕ). or_found found (has_item item (list_of xs))) (sym is);
      within = omega (arith, ap length is, length-drop place text);
      black = λ some. ap (λ (xs : List ℕ). is_white (get_or xs 0 0)) is ∙ ap is_white (get_or-drop place text 0 0 ∙ ap (λ (k : ℕ). get_or text k 0) count) ∙ black (omega (arith, some, ap length is, length-drop place text));
    }

-- where an item that isn't plain begins, or the text ends
pub PassesFront-here : (item text : List ℕ) (start at : ℕ) (found : Bool) → PassesTo item text start at found → at ≤ length text → (at < length text → is_white (get_or text at 0) ≡ false) → PassesFront item text start found
PassesFront-here item text start at found h fits end =
    let before : start ≤ at = h.within in
    record { told = h.told; within = omega arith; black = PassesTo-black item text start at found h end fits; cut = h.cut }

-- or where the search goes on from there
pub PassesFront-behind : (item text rest : List ℕ) (start at behind : ℕ) (found among : Bool) → PassesTo item text start at found → at ≤ length text → rest ≡ drop start text → PassesFront item rest behind among → PassesFront item text (start + behind) (found || among)
PassesFront-behind item text rest start at behind found among h fits is next =
    let before : start ≤ at = h.within in
    let past : drop behind rest ≡ drop (start + behind) text = ap (drop behind) is ∙ drop-drop behind start text in
    let long : length rest ≡ length text - start = ap length is ∙ length-drop start text in
    let within : behind ≤ length rest = next.within in
    record {
      told =
          h.told
          ∙ ap (λ (xs : List ℕ). or_found found (has_item item (list_of xs))) (sym is)
          ∙ ap (or_found found) next.told
          ∙ or_found-or_found found among (has_item item (list_of (drop behind rest)))
          ∙ ap (λ (xs : List ℕ). or_found (found || among) (has_item item (list_of xs))) past;
      within = omega arith;
      black = λ inside. ap is_white (sym (ap (λ (xs : List ℕ). get_or xs behind 0) is ∙ get_or-drop start text behind 0)) ∙ next.black (omega arith);
      cut = λ utf8. IsCharBoundary-from_rest text start behind (omega arith) (subst (λ (xs : List ℕ). IsCharBoundary xs behind) is (next.cut (subst IsUtf8 (sym is) (IsUtf8-drop text start utf8 (h.cut utf8)))));
    }

pub PassesTo-same : (item text : List ℕ) (start now at : ℕ) (found held : Bool) → PassesTo item text start at found → now ≡ start → held ≡ found → PassesTo item text now at held
PassesTo-same item text start now at found held h place is =
    subst (λ (k : ℕ). PassesTo item text k at held) (sym place) (subst (λ (b : Bool). PassesTo item text start at b) (sym is) h)

-- a byte that isn't of the kind of white space
pub no_white : (b : ℕ) (k : ByteKind) → k ≡ kind_of b → (k ≡ White → ⊥) → is_white b ≡ false
no_white b k is other = false_from_ne_true (is_white b) (λ white. other (is ∙ white_kind b white))

pub is_white_of : (b : ℕ) (k : ByteKind) → k ≡ kind_of b → k ≡ White → is_white b ≡ true
is_white_of b k is white = kind_told b White (sym is ∙ white)

pub plain_of : (b : ℕ) (k : ByteKind) → k ≡ kind_of b → is_plain k ≡ true → is_plain (kind_of b) ≡ true
plain_of b k is plain = sym (ap is_plain is) ∙ plain
