-- The elements of a list, one by one.
use Rattle.std.proofs.Common.{◌≡◌, ◌≢◌, ℕ, zero, suc, ◌+◌, ◌-◌, ◌<◌, ◌≤◌, Bool, true, false, List, [], ◌∷◌, ◌++◌, append-nil, append_assoc, drop, take, length, get_or, nat_eq, cond, IsUtf8, subst, Some, None, Ok, Err, Result, refl, arith, ap, sym, ◌∙◌, inl, inr}
use Rattle.std.specs.Borrow.{Bor}
use Rattle.std.proofs.lemmas.Bool.{cases_Bool, cases_lt, eqb-true, both_ways, false_from_ne_true}
use Rattle.std.proofs.lemmas.List.{drop_more, drop_all, length-drop}
use Rattle.tcl_text.specs.Backslash.{is_white, kind_of, escape, byte_mark, escape_mark, marks_past, marks, Mark}
use Rattle.tcl_text.specs.Readings.{ListPlace, between, in_braces, in_quotes, in_bare, closed, place_after, Reading, onto, begun, with_mark, reading, elements, skip_white, list_of}
use Rattle.tcl_text.specs.ListString.{items_read}
use Rattle.tcl_text.specs.Splitting.{FindsBrace, GivesBehind, GivesItem, GivesElement, IsAtEnd, IsBehind, ReadsTo, Unescapes, begins_bare_element, ends, ended, is_behind_element, items_before}
use Rattle.std.specs.Str.{IsCharBoundary}
use Rattle.std.proofs.lemmas.Str.{IsCharBoundary-from_drop}
use Rattle.tcl_text.proofs.IntegerReading.{white_low}
use Rattle.tcl_text.proofs.Utf8Lemmas.{behind_ascii, cut_at_ascii}
use Rattle.tcl_text.proofs.SplittingLemmas.{reading_between, reading_kind, told}
use Rattle.tcl_text.specs.declared.splitting.ByteKind.{ByteKind}
use Rattle.tcl_text.specs.declared.splitting.ByteKind.TheVariants.{White, OpenBrace, CloseBrace, Quote, Backslash, Other}
use Rattle.tcl_text.specs.declared.fault.ListFault.{ListFault}
use Rattle.tcl_text.specs.declared.fault.ListFault.TheVariants.{OpenQuote, ExtraCharacters}
use Rattle.tcl_text.specs.declared.fault.SplitFault.{SplitFault}
use Rattle.tcl_text.specs.declared.fault.SplitFault.TheVariants.{BadList, NoMemory}

-- the first mark of a text is of the kind of its first byte
record FirstMark (c : ℕ) (cs : List ℕ) : Type 0 where
  mark : Mark
  others : List Mark
  cut : marks (c ∷ cs) ≡ mark ∷ others
  kind : mark.kind ≡ kind_of c

first_mark : (c : ℕ) (cs : List ℕ) → FirstMark c cs
unfolding marks kind_of
first_mark c cs = elim (cases_Bool (nat_eq c 92)) [
  | inl slash ↦ record { mark = escape_mark cs; others = marks_past (escape cs).length cs; cut = rw slash refl; kind = sym (ap kind_of (eqb-true c 92 slash)) }
  | inr other ↦ record { mark = byte_mark c; others = marks_past 0 cs; cut = rw other refl; kind = refl }
]

pub white_kind : (c : ℕ) → is_white c ≡ true → kind_of c ≡ White
unfolding kind_of
white_kind c white = rw white refl

-- behind an element stands the list of the others
list_of-white : (c : ℕ) (cs : List ℕ) → is_white c ≡ true → reading between (marks cs) ≡ ended (list_of (c ∷ cs))
unfolding list_of
list_of-white c cs white =
    reading_between (marks cs) ∙ ap (λ r. ended (elements r)) (sym (reading_kind between White c cs (λ e. cc) (white_kind c white)))

pub reading_closed : (rest : List ℕ) → is_behind_element rest ≡ true → reading closed (marks rest) ≡ ended (list_of rest)
unfolding marks list_of
reading_closed [] white = refl
reading_closed (c ∷ cs) white = reading_kind closed White c cs (λ e. cc) (white_kind c white) ∙ list_of-white c cs white

pub reading_bare : (rest : List ℕ) → is_behind_element rest ≡ true → reading in_bare (marks rest) ≡ ended (list_of rest)
unfolding marks list_of
reading_bare [] white = refl
reading_bare (c ∷ cs) white = reading_kind in_bare White c cs (λ e. cc) (white_kind c white) ∙ list_of-white c cs white

-- or something is too many there
pub reading_extra : (rest : List ℕ) → is_behind_element rest ≡ false → reading closed (marks rest) ≡ Err ExtraCharacters
reading_extra [] black = absurd cc
reading_extra (c ∷ cs) black =
    let h = first_mark c cs in
    ap (reading closed) h.cut ∙ at h.mark.kind h.mark (λ k. reading (place_after closed k) h.others) (λ is. both_ways (is_white c) black (told c White (sym h.kind ∙ is)))
  where
    at : (k : ByteKind) (m : Mark) (r : ByteKind → Reading) → k ≢ White → with_mark closed k m (r k) ≡ Err ExtraCharacters
    at White m r other = absurd (other refl)
    at k m r other = refl

-- an element and the list behind it are the list
items_before-ended : (item : List ℕ) (read : Result (List (List ℕ)) ListFault) → elements (begun (onto item (ended read))) ≡ items_before (item ∷ []) read
items_before-ended item (Ok items) = ap (λ (bytes : List ℕ). let list : Result (List (List ℕ)) ListFault = Ok (bytes ∷ items) in list) (append-nil item)
items_before-ended item (Err f) = refl

-- what stands behind a place
behind_is : (text behind : List ℕ) (n : ℕ) → n ≤ length text → behind ≡ drop n text → IsBehind text behind
behind_is text behind n within is =
    let count : length text - length behind ≡ n = omega (arith, ap length is, length-drop n text) in
    is ∙ ap (λ i. drop i text) (sym count)

behind_more : (c : ℕ) (cs behind : List ℕ) → length behind ≤ length cs → IsBehind cs behind → IsBehind (c ∷ cs) behind
behind_more c cs behind within h =
    let count : suc (length cs) - length behind ≡ suc (length cs - length behind) = omega arith in
    h ∙ ap (λ i. drop i (c ∷ cs)) (sym count)

-- a list that begins with an element, by how it is read from behind its first byte on
begins_list : (place : ListPlace) (c : ℕ) (cs : List ℕ) (r : Result (List ℕ × Bor (List ℕ)) SplitFault) → list_of (c ∷ cs) ≡ elements (begun (reading place (marks cs))) → GivesItem place cs r → GivesElement (c ∷ cs) r
begins_list place c cs (Ok r) begins h =
    (omega (arith, h.0), begins ∙ ap (λ read. elements (begun read)) h.1 ∙ items_before-ended r.0 (list_of r.1.now), behind_more c cs r.1.now h.0 h.2)
begins_list place c cs (Err (BadList f)) begins h = begins ∙ ap (λ read. elements (begun read)) h
begins_list place c cs (Err NoMemory) begins h = tt

-- an element in braces, in quotes, or bare
pub gives_braced : (text slice : List ℕ) (r : Result (List ℕ × Bor (List ℕ)) SplitFault) → slice ≡ drop 1 text → 0 < length text → kind_of (get_or text 0 0) ≡ OpenBrace → GivesItem (in_braces 0) slice r → GivesElement text r
unfolding list_of
gives_braced [] slice r is some kind h = absurd (omega arith)
gives_braced (c ∷ cs) slice r is some kind h =
    begins_list (in_braces 0) c cs r (ap elements (reading_kind between OpenBrace c cs (λ e. cc) kind)) (subst (λ xs. GivesItem (in_braces 0) xs r) is h)

pub gives_quoted : (text slice : List ℕ) (r : Result (List ℕ × Bor (List ℕ)) SplitFault) → slice ≡ drop 1 text → 0 < length text → kind_of (get_or text 0 0) ≡ Quote → GivesItem in_quotes slice r → GivesElement text r
unfolding list_of
gives_quoted [] slice r is some kind h = absurd (omega arith)
gives_quoted (c ∷ cs) slice r is some kind h =
    begins_list in_quotes c cs r (ap elements (reading_kind between Quote c cs (λ e. cc) kind)) (subst (λ xs. GivesItem in_quotes xs r) is h)

-- an element may end at a place
behind_place : (text : List ℕ) (at : ℕ) → (at < length text → is_white (get_or text at 0) ≡ true) → is_behind_element (drop at text) ≡ true
behind_place text at h = elim (cases_lt at (length text)) [
  | inl inside ↦ ap is_behind_element (drop_more text at 0 inside) ∙ h inside
  | inr past ↦ ap is_behind_element (drop_all at text past)
]

bare_begins : (c : ℕ) (cs : List ℕ) → begins_bare_element (kind_of c) ≡ true → reading between (marks (c ∷ cs)) ≡ begun (reading in_bare (marks (c ∷ cs)))
bare_begins c cs bare =
    let h = first_mark c cs in
    ap (reading between) h.cut ∙ at h.mark.kind h.mark (λ place. reading place h.others) (ap begins_bare_element h.kind ∙ bare) ∙ ap (λ ms. begun (reading in_bare ms)) (sym h.cut)
  where
    at : (k : ByteKind) (m : Mark) (r : ListPlace → Reading) → begins_bare_element k ≡ true → with_mark between k m (r (place_after between k)) ≡ begun (with_mark in_bare k m (r (place_after in_bare k)))
    at CloseBrace m r bare = refl
    at Backslash m r bare = refl
    at Other m r bare = refl
    at k m r bare = absurd cc

white_no_bare : (c : ℕ) → begins_bare_element (kind_of c) ≡ true → is_white c ≡ false
white_no_bare c bare = false_from_ne_true (is_white c) (λ white. let e : false ≡ true = sym (ap begins_bare_element (white_kind c white)) ∙ bare in absurd cc)

-- an item in front that was read so stands before the list behind it
pub bare_list : (text item : List ℕ) (at : ℕ) → 0 < length text → begins_bare_element (kind_of (get_or text 0 0)) ≡ true → ReadsTo in_bare text at item in_bare → IsAtEnd false text at → list_of text ≡ items_before (item ∷ []) (list_of (drop at text))
unfolding list_of
bare_list [] item at some bare reads end = absurd (omega arith)
bare_list (c ∷ cs) item zero some bare reads end = absurd (both_ways (is_white c) (white_no_bare c bare) (end some))
bare_list (c ∷ cs) item (suc n) some bare reads end =
    let text = c ∷ cs in
    ap elements (bare_begins c cs bare)
    ∙ ap (λ read. elements (begun read)) (reads ∙ ap (onto item) (reading_bare (drop (suc n) text) (behind_place text (suc n) end)))
    ∙ items_before-ended item (list_of (drop (suc n) text))

pub bare_gives : (text item now : List ℕ) (at : ℕ) → 0 < length text → begins_bare_element (kind_of (get_or text 0 0)) ≡ true → Unescapes false text item at → IsAtEnd false text at → now ≡ drop at text
    → (length now < length text) × (list_of text ≡ items_before (item ∷ []) (list_of now)) × IsBehind text now
bare_gives text item now at some bare h end is = (
  shorter at end h.fits is,
  bare_list text item at some bare h.reads end ∙ ap (λ xs. items_before (item ∷ []) (list_of xs)) (sym is),
  behind_is text now at h.fits is,
)
  where
    black : is_white (get_or text 0 0) ≡ false
    black = white_no_bare (get_or text 0 0) bare

    shorter : (at : ℕ) → IsAtEnd false text at → at ≤ length text → now ≡ drop at text → length now < length text
    shorter zero end fits is = absurd (both_ways (is_white (get_or text 0 0)) black (end some))
    shorter (suc n) end fits is = omega (arith, ap length is, length-drop (suc n) text)

pub gives_bare : (text item : List ℕ) (at : ℕ) (rest : Bor (List ℕ)) → 0 < length text → begins_bare_element (kind_of (get_or text 0 0)) ≡ true → Unescapes false text item at → IsAtEnd false text at → rest.now ≡ drop at text → GivesElement text (Ok (item, rest))
gives_bare text item at rest some bare h end is = bare_gives text item rest.now at some bare h end is

-- ── closing braces and quotes ──

pub gives_rest : (text now : List ℕ) (at : ℕ) → at < length text → now ≡ drop (at + 1) text → is_behind_element now ≡ true → (now ≡ drop (at + 1) text) × (reading closed (marks (drop (at + 1) text)) ≡ ended (list_of now)) × IsBehind text now
gives_rest text now at inside is ends = (
  is,
  reading_closed (drop (at + 1) text) (ap is_behind_element (sym is) ∙ ends) ∙ ap (λ rest. ended (list_of rest)) (sym is),
  behind_is text now (at + 1) (omega arith) is,
)

pub gives_behind : (text slice : List ℕ) (at : ℕ) (behind : Bor (List ℕ)) → at < length text → behind.now ≡ drop (at + 1) text → slice ≡ behind.now → is_behind_element slice ≡ true → GivesBehind text at (Some behind)
gives_behind text slice at behind inside is same ends = gives_rest text behind.now at inside is (ap is_behind_element (sym same) ∙ ends)

pub gives_extra : (text slice : List ℕ) (at : ℕ) → slice ≡ drop (at + 1) text → is_behind_element slice ≡ false → GivesBehind text at None
gives_extra text slice at is more = reading_extra (drop (at + 1) text) (ap is_behind_element (sym is) ∙ more)

-- an item that was closed, and what stands behind it
closed_item : (place : ListPlace) (text item : List ℕ) (at : ℕ) (behind : Bor (List ℕ)) → at < length text → reading place (marks text) ≡ onto item (reading closed (marks (drop (at + 1) text))) → GivesBehind text at (Some behind) → GivesItem place text (Ok (item, behind))
closed_item place text item at behind inside closing h =
    (omega (arith, ap length h.0, length-drop (at + 1) text), closing ∙ ap (onto item) h.1, h.2)

closed_extra : (place : ListPlace) (text item : List ℕ) (at : ℕ) → reading place (marks text) ≡ onto item (reading closed (marks (drop (at + 1) text))) → GivesBehind text at None → reading place (marks text) ≡ Err ExtraCharacters
closed_extra place text item at closing h = closing ∙ ap (onto item) h

-- an item in braces
pub braced_item : (text : List ℕ) (at : ℕ) (behind : Bor (List ℕ)) → FindsBrace text (Some at) → GivesBehind text at (Some behind) → GivesItem (in_braces 0) text (Ok (take at text, behind))
braced_item text at behind found gives = closed_item (in_braces 0) text (take at text) at behind found.0 found.2 gives

-- a quote that closes an element
quote_found : (text item : List ℕ) (at : ℕ) → at < length text → Unescapes true text item at → IsAtEnd true text at → reading in_quotes (marks text) ≡ onto item (reading closed (marks (drop (at + 1) text)))
unfolding kind_of
quote_found text item at inside h end =
    let opened : drop at text ≡ 34 ∷ drop (at + 1) text = drop_more text at 0 inside ∙ ap (λ b. b ∷ drop (at + 1) text) (eqb-true (get_or text at 0) 34 (end inside)) in
    h.reads ∙ ap (onto item) (ap (λ rest. reading in_quotes (marks rest)) opened ∙ reading_kind in_quotes Quote 34 (drop (at + 1) text) (λ e. cc) refl)

pub quoted_item : (text item : List ℕ) (at : ℕ) (behind : Bor (List ℕ)) → at < length text → Unescapes true text item at → IsAtEnd true text at → GivesBehind text at (Some behind) → GivesItem in_quotes text (Ok (item, behind))
quoted_item text item at behind inside h end found = closed_item in_quotes text item at behind inside (quote_found text item at inside h end) found

pub quoted_extra : (text item : List ℕ) (at : ℕ) → at < length text → Unescapes true text item at → IsAtEnd true text at → GivesBehind text at None → reading in_quotes (marks text) ≡ Err ExtraCharacters
quoted_extra text item at inside h end found = closed_extra in_quotes text item at (quote_found text item at inside h end) found

pub quote_missing : (text item : List ℕ) (at : ℕ) → at ≡ length text → Unescapes true text item at → reading in_quotes (marks text) ≡ Err OpenQuote
unfolding marks
quote_missing text item at is h = h.reads ∙ ap (onto item) (ap (λ rest. reading in_quotes (marks rest)) (drop_all at text (omega arith)))

-- ── white space in front ──

pub skip_white_within : (text : List ℕ) → length (skip_white text) ≤ length text
skip_white_within [] = omega arith
skip_white_within (c ∷ cs) = elim (cases_Bool (is_white c)) [
  | inl white ↦ rw white (let others : length (skip_white cs) ≤ length cs = skip_white_within cs in omega arith)
  | inr black ↦ rw black (omega arith)
]

pub skip_white_is_drop : (text : List ℕ) → drop (length text - length (skip_white text)) text ≡ skip_white text
skip_white_is_drop [] = refl
skip_white_is_drop (c ∷ cs) = elim (cases_Bool (is_white c)) [
  | inl white ↦ rw white (
      let others : length (skip_white cs) ≤ length cs = skip_white_within cs in
      let count : suc (length cs) - length (skip_white cs) ≡ suc (length cs - length (skip_white cs)) = omega arith in
      rw count (skip_white_is_drop cs))
  | inr black ↦ rw black (let none : suc (length cs) - suc (length cs) ≡ 0 = omega arith in rw none refl)
]

skip_white_utf8 : (text : List ℕ) → IsUtf8 text → IsUtf8 (skip_white text)
skip_white_utf8 [] text = text
skip_white_utf8 (c ∷ cs) text = elim (cases_Bool (is_white c)) [
  | inl white ↦ rw white (skip_white_utf8 cs (behind_ascii c cs (let low : c ≤ 32 = white_low c white in omega arith) text))
  | inr black ↦ rw black text
]

-- the text may be cut there
pub skip_white_boundary : (text behind : List ℕ) → behind ≡ skip_white text → IsUtf8 text → IsCharBoundary text (length text - length behind)
skip_white_boundary text behind is utf8 =
    let at = length text - length (skip_white text) in
    subst (λ rest. IsCharBoundary text (length text - length rest)) (sym is)
    (IsCharBoundary-from_drop text at (omega arith) (subst IsUtf8 (sym (skip_white_is_drop text)) (skip_white_utf8 text utf8)))

-- what is left begins with no white space
pub skip_white_black : (text : List ℕ) → 0 < length (skip_white text) → is_white (get_or (skip_white text) 0 0) ≡ false
skip_white_black [] some = absurd (omega arith)
skip_white_black (c ∷ cs) some = at (is_white c) refl (skip_white_black cs) some
  where
    at : (white : Bool) → is_white c ≡ white → (0 < length (skip_white cs) → is_white (get_or (skip_white cs) 0 0) ≡ false) → 0 < length (cond white (skip_white cs) (c ∷ cs)) → is_white (get_or (cond white (skip_white cs) (c ∷ cs)) 0 0) ≡ false
    at true is others some = others some
    at false is others some = is

pub list_of-behind : (c : ℕ) (cs : List ℕ) → is_white c ≡ true → list_of (c ∷ cs) ≡ list_of cs
unfolding list_of
list_of-behind c cs white = ap elements (reading_kind between White c cs (λ e. cc) (white_kind c white))

-- white space in front changes no list
pub list_of-skip_white : (text : List ℕ) → list_of (skip_white text) ≡ list_of text
list_of-skip_white [] = refl
list_of-skip_white (c ∷ cs) = elim (cases_Bool (is_white c)) [
  | inl white ↦ rw white (list_of-skip_white cs ∙ sym (list_of-behind c cs white))
  | inr black ↦ rw black refl
]

-- the byte that ends an element is ASCII
end_low : (quoted : Bool) (b : ℕ) → ends quoted b ≡ true → b < 128
end_low true b end = let is : b ≡ 34 = eqb-true b 34 end in omega arith
end_low false b end = let low : b ≤ 32 = white_low b end in omega arith

-- so what was read up to there is a text
pub unescaped_utf8 : (quoted : Bool) (text bytes : List ℕ) (at : ℕ) → Unescapes quoted text bytes at → IsAtEnd quoted text at → IsUtf8 text → IsUtf8 bytes
unescaped_utf8 quoted text bytes at h end utf8 = elim (cases_lt at (length text)) [
  | inl inside ↦ (cut_at_ascii bytes (drop (at + 1) text) (get_or text at 0) (end_low quoted (get_or text at 0) (end inside)) (subst (λ rest. IsUtf8 (bytes ++ rest)) (drop_more text at 0 inside) (h.utf8 utf8))).0
  | inr past ↦ subst IsUtf8 (append-nil bytes) (subst (λ rest. IsUtf8 (bytes ++ rest)) (drop_all at text past) (h.utf8 utf8))
]

-- a byte that is neither white nor opens an element begins a bare one
pub begins_bare_from : (c : ℕ) → is_white c ≡ false → kind_of c ≢ OpenBrace → kind_of c ≢ Quote → begins_bare_element (kind_of c) ≡ true
begins_bare_from c black opening quote = at (kind_of c) (λ is. both_ways (is_white c) black (told c White is)) opening quote
  where
    at : (k : ByteKind) → k ≢ White → k ≢ OpenBrace → k ≢ Quote → begins_bare_element k ≡ true
    at White w o q = absurd (w refl)
    at OpenBrace w o q = absurd (o refl)
    at Quote w o q = absurd (q refl)
    at k w o q = refl

-- items in front of items
pub items_before-items_before : (xs ys : List (List ℕ)) (read : Result (List (List ℕ)) ListFault) → items_before xs (items_before ys read) ≡ items_before (xs ++ ys) read
items_before-items_before xs ys (Ok items) = ap (λ (zs : List (List ℕ)). let list : Result (List (List ℕ)) ListFault = Ok zs in list) (sym (append_assoc xs ys items))
items_before-items_before xs ys (Err f) = refl

pub items_before-nil : (read : Result (List (List ℕ)) ListFault) → items_before [] read ≡ read
items_before-nil (Ok items) = refl
items_before-nil (Err f) = refl

-- how far a list was split
pub record SplitsTo (text : List ℕ) (items : List (List ℕ)) (rest : List ℕ) : Type 0 where
  pub reads : items_before items (list_of rest) ≡ list_of text
  pub short : length rest ≤ 65536
  pub black : 0 < length rest → is_white (get_or rest 0 0) ≡ false

-- behind white space
pub SplitsTo-trimmed : (text : List ℕ) (items : List (List ℕ)) (rest trimmed : List ℕ) → trimmed ≡ skip_white rest → items_before items (list_of rest) ≡ list_of text → length rest ≤ 65536 → SplitsTo text items trimmed
SplitsTo-trimmed text items rest trimmed is reads short = subst (SplitsTo text items) (sym is) (record {
  reads = ap (items_before items) (list_of-skip_white rest) ∙ reads;
  short = (let within : length (skip_white rest) ≤ length rest = skip_white_within rest in omega arith);
  black = skip_white_black rest;
})

pub SplitsTo-start : (text trimmed : List ℕ) (items : List (List ℕ)) → items ≡ [] → length text ≤ 65536 → trimmed ≡ skip_white text → SplitsTo text items trimmed
SplitsTo-start text trimmed items none short is =
    SplitsTo-trimmed text items text trimmed is (ap (λ xs. items_before xs (list_of text)) none ∙ items_before-nil (list_of text)) short

pub SplitsTo-item : (text : List ℕ) (items new : List (List ℕ)) (rest item behind trimmed : List ℕ) → SplitsTo text items rest → length behind < length rest → list_of rest ≡ items_before (item ∷ []) (list_of behind) →
    new ≡ items ++ item ∷ [] → trimmed ≡ skip_white behind → SplitsTo text new trimmed
SplitsTo-item text items new rest item behind trimmed h shorter element pushed is =
    SplitsTo-trimmed text new behind trimmed is
    (ap (λ xs. items_before xs (list_of behind)) pushed ∙ sym (items_before-items_before items (item ∷ []) (list_of behind)) ∙ ap (items_before items) (sym element) ∙ h.reads)
    (let short : length rest ≤ 65536 = h.short in omega arith)

-- at the end
pub SplitsTo-end : (text : List ℕ) (items : List (List ℕ)) (rest : List ℕ) → SplitsTo text items rest → length rest ≡ 0 → list_of text ≡ Ok items
unfolding list_of marks
SplitsTo-end text items [] h none = sym h.reads ∙ ap (λ (zs : List (List ℕ)). let list : Result (List (List ℕ)) ListFault = Ok zs in list) (append-nil items)
SplitsTo-end text items (c ∷ cs) h none = absurd (omega arith)

-- ── a list that begins with no white space has an item ──

begun_some : (r : Reading) (items : List (List ℕ)) → elements (begun r) ≡ Ok items → 0 < length items
begun_some (Ok r) items is = subst (λ (read : Result (List (List ℕ)) ListFault). 0 < length (items_read read)) is (omega arith)
begun_some (Err f) items is = absurd cc

pub some_item : (text : List ℕ) (items : List (List ℕ)) → 0 < length text → is_white (get_or text 0 0) ≡ false → list_of text ≡ Ok items → 0 < length items
unfolding list_of
some_item [] items some black is = absurd (omega arith)
some_item (c ∷ cs) items some black is =
    let h = first_mark c cs in
    at h.mark.kind h.mark h.others (λ white. both_ways (is_white c) black (told c White (sym h.kind ∙ white))) (ap (λ ms. elements (reading between ms)) (sym h.cut) ∙ is)
  where
    at : (k : ByteKind) (m : Mark) (ms : List Mark) → k ≢ White → elements (with_mark between k m (reading (place_after between k) ms)) ≡ Ok items → 0 < length items
    at White m ms other is = absurd (other refl)
    at OpenBrace m ms other is = begun_some (reading (in_braces 0) ms) items is
    at Quote m ms other is = begun_some (reading in_quotes ms) items is
    at k m ms other is = begun_some (onto m.meant (reading in_bare ms)) items is
