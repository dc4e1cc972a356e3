-- What remains of a sought item behind what a list has, and the list's elements beside it.
use Rattle.std.proofs.Common.{◌≡◌, ℕ, ◌+◌, ◌-◌, ◌<◌, ◌≤◌, Bool, true, false, ◌||◌, ◌&&◌, not, nat_eq, nat_le, List, [], ◌∷◌, ◌++◌, append-nil, append_assoc, take, drop, length, get_or, bytes_eq, cond, Option, Some, None, Result, Ok, Err, refl, arith, ap, sym, subst, ◌∙◌}
use Rattle.std.specs.Borrow.{Bor}
use Rattle.std.proofs.lemmas.Bool.{eq-eqb, eqb-true, false_from_ne_true}
use Rattle.std.proofs.lemmas.List.{append_cancel_left, length-append, length-take, take-append-drop}
use Rattle.tcl_text.specs.Backslash.{is_alone, kind_of, named, one_byte, Escape, escape}
use Rattle.tcl_text.specs.Readings.{in_braces, in_quotes, list_of, skip_white}
use Rattle.tcl_text.specs.Searching.{has_item}
use Rattle.tcl_text.specs.SearchSteps.{Compared, GoesOn, Passes, ReadsItem, Remains, TellsElement, TellsItem, or_found}
use Rattle.tcl_text.specs.Splitting.{FindsBrace, GivesBehind, IsAtEnd, IsBehind, ReadsTo, Unescapes, begins_bare_element, items_before, within}
use Rattle.tcl_text.proofs.ByteLemmas.{equal, no_bytes, unequal}
use Rattle.tcl_text.proofs.ElementLemmas.{bare_gives, braced_item, gives_braced, gives_quoted, list_of-skip_white, quoted_item, skip_white_black, skip_white_within}
use Rattle.tcl_text.proofs.SearchLemmas.{or_found-false}
use Rattle.tcl_text.proofs.SplittingLemmas.{ReadsTo-start, Unescapes-run_read, Unescapes-escape_read}
use Rattle.tcl_text.specs.declared.splitting.ByteKind.TheVariants.{OpenBrace, Quote}
use Rattle.tcl_text.specs.declared.fault.SplitFault.{SplitFault}

-- ── what remains of an item ──

-- none remains where none did
pub goes_on_none : (more : List ℕ) → GoesOn None more None
goes_on_none more = λ item bytes none rest same. none (more ++ rest) (sym (append_assoc bytes more rest) ∙ same)

-- no bytes change nothing
pub goes_on_nothing : (left : Option (Bor (List ℕ))) (front : List ℕ) → length front ≡ 0 → GoesOn left front left
goes_on_nothing left front none = λ item bytes h. subst (λ (xs : List ℕ). Remains item xs left) (sym (ap (λ (xs : List ℕ). bytes ++ xs) (no_bytes front [] none refl) ∙ append-nil bytes)) h

-- or what is in front isn't the same
pub goes_on_other : (left front : List ℕ) (n : ℕ) → (item bytes : List ℕ) → bytes ++ left ≡ item → n ≡ length front → (take n left ≡ front → ⊥) → (rest : List ℕ) → (bytes ++ front) ++ rest ≡ item → ⊥
goes_on_other left front n item bytes is count other rest same =
    let left_is : front ++ rest ≡ left = append_cancel_left bytes (front ++ rest) left (sym (append_assoc bytes front rest) ∙ same ∙ sym is) in
    other (ap (λ (xs : List ℕ). take n xs) (sym left_is) ∙ front_of front rest n count)
  where
    front_of : (xs ys : List ℕ) (n : ℕ) → n ≡ length xs → take n (xs ++ ys) ≡ xs
    front_of [] ys n is = rw is refl
    front_of (x ∷ xs) ys n is = rw is (ap (λ (zs : List ℕ). x ∷ zs) (front_of xs ys (length xs) refl))

pub too_short : (left front : List ℕ) → length left < length front → take (length front) left ≡ front → ⊥
too_short left front short same = absurd (omega (arith, short, ap length same, length-take (length front) left))

-- or it is, and what stands behind it remains
pub goes_on_same : (left front now : List ℕ) (n : ℕ) → (item bytes : List ℕ) → bytes ++ left ≡ item → take n left ≡ front → now ≡ drop n left → (bytes ++ front) ++ now ≡ item
goes_on_same left front now n item bytes is same now_is =
    append_assoc bytes front now
    ∙ ap (λ (xs : List ℕ). bytes ++ (xs ++ now)) (sym same)
    ∙ ap (λ (xs : List ℕ). bytes ++ (take n left ++ xs)) now_is
    ∙ ap (λ (xs : List ℕ). bytes ++ xs) (take-append-drop n left)
    ∙ is

pub whole_some : (left : List ℕ) → (item bytes : List ℕ) → bytes ++ left ≡ item → nat_eq (length left) 0 ≡ bytes_eq bytes item
whole_some [] item bytes is = eq-eqb 0 0 refl ∙ sym (equal bytes item (sym (append-nil bytes) ∙ is))
whole_some (c ∷ cs) item bytes is =
    false_from_ne_true (nat_eq (length (c ∷ cs)) 0) (λ none. let count : length (c ∷ cs) ≡ 0 = eqb-true (length (c ∷ cs)) 0 none in absurd (omega (arith, count)))
    ∙ sym (unequal bytes item (λ same. absurd (omega (arith, ap length is, length-append bytes (c ∷ cs), ap length same))))

pub whole_none : (item bytes : List ℕ) → ((rest : List ℕ) → bytes ++ rest ≡ item → ⊥) → false ≡ bytes_eq bytes item
whole_none item bytes none = sym (unequal bytes item (λ same. none [] (append-nil bytes ∙ same)))

-- what a backslash stands for before a byte that it takes alone
pub escape_alone : (behind : List ℕ) → 0 < length behind → is_alone (get_or behind 0 0) ≡ true → escape behind ≡ one_byte (named (get_or behind 0 0))
unfolding escape
escape_alone [] some alone = absurd (omega (arith, some))
escape_alone (c ∷ cs) some alone = at (nat_eq c 10) (nat_le 48 c && nat_le c 55) (nat_eq c 120) (nat_eq c 117) (nat_eq c 85) _ _ _ _ _ _ alone
  where
    at : (t u v w x : Bool) (a b d e f g : Escape) → not (t || u || v || w || x) ≡ true → cond t a (cond u b (cond v d (cond w e (cond x f g)))) ≡ g
    at true u v w x a b d e f g alone = absurd cc
    at false true v w x a b d e f g alone = absurd cc
    at false false true w x a b d e f g alone = absurd cc
    at false false false true x a b d e f g alone = absurd cc
    at false false false false true a b d e f g alone = absurd cc
    at false false false false false a b d e f g alone = refl

-- ── an item that is compared as it is read ──

-- it was read up to a place, and what remains of the sought one there
pub record ComparesTo (quoted : Bool) (item text : List ℕ) (at : ℕ) (left : Option (Bor (List ℕ))) : Type 0 where
  pub bytes : List ℕ
  pub reads : Unescapes quoted text bytes at
  pub remains : Remains item bytes left

pub compares_start : (quoted : Bool) (text : List ℕ) (item : Bor (List ℕ)) → ComparesTo quoted item.now text 0 (Some item)
compares_start quoted text item = record {
  bytes = [];
  reads = record { fits = omega arith; reads = ReadsTo-start (within quoted) text; short = omega arith; utf8 = λ utf8. utf8 };
  remains = refl;
}

pub compares_run : (quoted : Bool) (item text slice : List ℕ) (at run : ℕ) (left now : Option (Bor (List ℕ))) → slice ≡ drop at text → ComparesTo quoted item text at left → run ≤ length slice → ReadsTo (within quoted) slice run (take run slice) (within quoted)
    → GoesOn left (take (at + run - at) (drop at text)) now → ComparesTo quoted item text (at + run) now
compares_run quoted item text slice at run left now is h fits reads goes =
    let bytes = h.bytes ++ take (at + run - at) (drop at text) in
    record { bytes = bytes; reads = Unescapes-run_read quoted text h.bytes bytes slice at run is h.reads fits reads refl; remains = goes item h.bytes h.remains }

pub compares_escape : (quoted : Bool) (item text slice : List ℕ) (at n : ℕ) (left now : Option (Bor (List ℕ))) → slice ≡ drop (at + 1) text → ComparesTo quoted item text at left → at < length text → get_or text at 0 ≡ 92 → n ≡ (escape slice).length
    → GoesOn left (escape slice).meaning now → ComparesTo quoted item text (at + (n + 1)) now
compares_escape quoted item text slice at n left now is h inside slash count goes =
    let bytes = h.bytes ++ (escape slice).meaning in
    subst (λ (k : ℕ). ComparesTo quoted item text (at + (k + 1)) now) (sym count)
    (record { bytes = bytes; reads = Unescapes-escape_read quoted text h.bytes bytes slice at (escape slice) is h.reads inside slash refl refl; remains = goes item h.bytes h.remains })

pub compares_told : (quoted : Bool) (item text : List ℕ) (at : ℕ) (left : Option (Bor (List ℕ))) (same : Bool) → ComparesTo quoted item text at left → ((item bytes : List ℕ) → Remains item bytes left → same ≡ bytes_eq bytes item) → ReadsItem quoted item text at same
compares_told quoted item text at left same h whole = record { bytes = h.bytes; reads = h.reads; told = whole item h.bytes h.remains }

-- ── the item in front ──

pub tells_braced_item : (item text word : List ℕ) (at : ℕ) (same : Bool) (behind : Bor (List ℕ)) → word ≡ take at text → same ≡ bytes_eq word item → FindsBrace text (Some at) → GivesBehind text at (Some behind) → TellsItem (in_braces 0) item text (Ok (same, behind))
tells_braced_item item text word at same behind is told found closed = record { element = take at text; told = told ∙ ap (λ (xs : List ℕ). bytes_eq xs item) is; gives = braced_item text at behind found closed }

pub tells_quoted_item : (item text : List ℕ) (at : ℕ) (same : Bool) (behind : Bor (List ℕ)) → at < length text → ReadsItem true item text at same → IsAtEnd true text at → GivesBehind text at (Some behind) → TellsItem in_quotes item text (Ok (same, behind))
tells_quoted_item item text at same behind inside h end closed = record { element = h.bytes; told = h.told; gives = quoted_item text h.bytes at behind inside h.reads end closed }

pub tells_bare : (item text now : List ℕ) (at : ℕ) (same : Bool) → 0 < length text → begins_bare_element (kind_of (get_or text 0 0)) ≡ true → ReadsItem false item text at same → IsAtEnd false text at → now ≡ drop at text
    → Compared (λ element. (length now < length text) × (list_of text ≡ items_before (element ∷ []) (list_of now)) × IsBehind text now) item same
tells_bare item text now at same some begins h end is = record { element = h.bytes; told = h.told; gives = bare_gives text h.bytes now at some begins h.reads end is }

pub tells_braced : (item text slice : List ℕ) (r : Result (Bool × Bor (List ℕ)) SplitFault) → slice ≡ drop 1 text → 0 < length text → kind_of (get_or text 0 0) ≡ OpenBrace → TellsItem (in_braces 0) item slice r → TellsElement item text r
tells_braced item text slice (Ok r) is some kind h = record { element = h.element; told = h.told; gives = gives_braced text slice (Ok (h.element, r.1)) is some kind h.gives }
tells_braced item text slice (Err fault) is some kind h = gives_braced text slice (Err fault) is some kind h

pub tells_quoted : (item text slice : List ℕ) (r : Result (Bool × Bor (List ℕ)) SplitFault) → slice ≡ drop 1 text → 0 < length text → kind_of (get_or text 0 0) ≡ Quote → TellsItem in_quotes item slice r → TellsElement item text r
tells_quoted item text slice (Ok r) is some kind h = record { element = h.element; told = h.told; gives = gives_quoted text slice (Ok (h.element, r.1)) is some kind h.gives }
tells_quoted item text slice (Err fault) is some kind h = gives_quoted text slice (Err fault) is some kind h

-- ── behind white space ──

no_items_yet : (item text rest : List ℕ) → list_of rest ≡ list_of text → has_item item (list_of text) ≡ or_found false (has_item item (list_of rest))
no_items_yet item text rest same = ap (has_item item) (sym same) ∙ sym (or_found-false (has_item item (list_of rest)))

pub Passes-white : (item text rest : List ℕ) → rest ≡ skip_white text → Passes item text rest false
Passes-white item text rest is = subst (λ (xs : List ℕ). Passes item text xs false) (sym is) (record {
  told = no_items_yet item text (skip_white text) (list_of-skip_white text);
  within = skip_white_within text;
  black = skip_white_black text;
})

pub Passes-behind_white : (item text rest left : List ℕ) (found : Bool) → rest ≡ skip_white text → Passes item rest left found → Passes item text left found
Passes-behind_white item text rest left found is h =
    let same : list_of rest ≡ list_of text = ap list_of is ∙ list_of-skip_white text in
    let shorter : length rest ≤ length text = omega (arith, ap length is, skip_white_within text) in
    record {
      told = ap (has_item item) (sym same) ∙ h.told;
      within = (let before : length left ≤ length rest = h.within in omega (arith, before, shorter));
      black = h.black;
    }
