-- What the form of a list reads as: its items.
use Rattle.std.proofs.Common.{◌≡◌, ◌≢◌, ℕ, zero, suc, ◌+◌, ◌*◌, ◌≤◌, Bool, true, false, not, cond, List, [], ◌∷◌, ◌++◌, append_assoc, append-nil, take, drop, length, nat_eq, nat_lt, subst, Ok, refl, arith, ap, sym, ◌∙◌, inl, inr}
use Rattle.std.specs.Prelude.{nat_le, ◌&&◌, ◌==◌}
use Rattle.std.specs.List.{list_all}
use Rattle.std.specs.Char.{digit_value}
use Rattle.std.proofs.lemmas.Bool.{cases_Bool, and_parts, or_parts, or_cases, eqb-true, both_ways, not-true, cases_eq, leb-true, le-ltb}
use Rattle.std.proofs.lemmas.List.{take-append-le, take-append-drop}
use Rattle.tcl_text.specs.Backslash.{Digits, Escape, Mark, byte_mark, digits_from, escape, escape_mark, is_white, kind_of, marks, marks_past, numbered}
use Rattle.tcl_text.specs.ListForm.{others_form}
use Rattle.tcl_text.specs.Readings.{IsElement, IsElementEnd, are_balanced, bare, Reading, begins_comment, begun, between, braced, can_be_bare, can_be_braced, element_form, elements, has_joined_line, is_special, is_white_mark, letter_of, list_form, list_of, meant, onto, reading, with_backslashes, written}
use Rattle.tcl_text.proofs.BackslashLemmas.{escape_within}
use Rattle.tcl_text.proofs.ListFormLemmas.{list_form-cons}
use Rattle.tcl_text.proofs.ListReading.{reads_element}
use Rattle.tcl_text.specs.declared.splitting.ByteKind.{ByteKind}
use Rattle.tcl_text.specs.declared.splitting.ByteKind.TheVariants.{White, OpenBrace, Quote, Backslash, Other}

-- ── in braces ──

-- digits go no further than a closing brace
digits-close : (base bound most n : ℕ) (xs ys : List ℕ) → base ≤ 36 → digits_from base bound most n (xs ++ 125 ∷ ys) ≡ digits_from base bound most n xs
digits-close base bound zero n xs ys small = refl
digits-close base bound (suc most) n [] ys small = rw (le-ltb 36 base small) refl
digits-close base bound (suc most) n (c ∷ cs) ys small =
    elim (cases_Bool (nat_lt (digit_value c) base && nat_le (n * base + digit_value c) bound)) [
      | inl fits ↦ rw fits (ap (λ (d : Digits). let more : Digits = record { value = d.value; count = suc d.count } in more) (digits-close base bound most (n * base + digit_value c) cs ys small))
      | inr not ↦ rw not refl
    ]

-- nor does a backslash that stands before something other than a newline
escape-close : (c : ℕ) (cs ys : List ℕ) → nat_eq c 10 ≡ false → escape (c ∷ (cs ++ 125 ∷ ys)) ≡ escape (c ∷ cs)
unfolding escape
escape-close c cs ys line =
    rw line (
    at (nat_le 48 c && nat_le c 55) (numbered c 0) (digits-close 8 255 3 0 (c ∷ cs) ys (omega arith))
    (at (nat_eq c 120) (numbered c 1) (digits-close 16 0xFF 2 0 cs ys (omega arith))
    (at (nat_eq c 117) (numbered c 1) (digits-close 16 0xFFFF 4 0 cs ys (omega arith))
    (at (nat_eq c 85) (numbered c 1) (digits-close 16 0x10FFFF 8 0 cs ys (omega arith)) refl))))
  where
    at : (test : Bool) (f : Digits → Escape) {d e : Digits} → d ≡ e → {x y : Escape} → x ≡ y → cond test (f d) x ≡ cond test (f e) y
    at true f is other = ap f is
    at false f is other = other

joined_tail : (b : ℕ) (bs : List ℕ) → has_joined_line (b ∷ bs) ≡ false → has_joined_line bs ≡ false
joined_tail b [] none = refl
joined_tail b (c ∷ cs) none = (or_parts (b == 92 && c == 10) (has_joined_line (c ∷ cs)) none).1

-- the marks of an item go no further than the brace that closes it
marks_past-close : (taken : ℕ) (item rest : List ℕ) → taken ≤ length item → has_joined_line item ≡ false → marks_past taken (item ++ 125 ∷ rest) ≡ marks_past taken item ++ byte_mark 125 ∷ marks_past 0 rest
marks_past-close zero [] rest fits none = refl
marks_past-close (suc taken) [] rest fits none = absurd (omega arith)
marks_past-close (suc taken) (b ∷ bs) rest fits none = marks_past-close taken bs rest (omega arith) (joined_tail b bs none)
marks_past-close zero (b ∷ bs) rest fits none =
    elim (cases_Bool (nat_eq b 92)) [
      | inl slash ↦ rw slash (behind bs slash (joined_tail b bs none) none (λ taken fits. marks_past-close taken bs rest fits (joined_tail b bs none)))
      | inr other ↦ rw other (ap (λ ms. byte_mark b ∷ ms) (marks_past-close 0 bs rest (omega arith) (joined_tail b bs none)))
    ]
  where
    behind : (bs : List ℕ) → nat_eq b 92 ≡ true → has_joined_line bs ≡ false → has_joined_line (b ∷ bs) ≡ false →
        ((taken : ℕ) → taken ≤ length bs → marks_past taken (bs ++ 125 ∷ rest) ≡ marks_past taken bs ++ byte_mark 125 ∷ marks_past 0 rest) →
        escape_mark (bs ++ 125 ∷ rest) ∷ marks_past (escape (bs ++ 125 ∷ rest)).length (bs ++ 125 ∷ rest) ≡ escape_mark bs ∷ (marks_past (escape bs).length bs ++ byte_mark 125 ∷ marks_past 0 rest)
    behind [] slash tail whole more = absurd (both_ways (nat_eq b 92) whole slash)
    behind (c ∷ cs) slash tail whole more =
        let line : nat_eq c 10 ≡ false = newline slash (or_parts (b == 92 && c == 10) (has_joined_line (c ∷ cs)) whole).0 in
        let same : escape (c ∷ (cs ++ 125 ∷ rest)) ≡ escape (c ∷ cs) = escape-close c cs rest line in
        let n = (escape (c ∷ cs)).length in
        let within : n ≤ length (c ∷ cs) = escape_within (c ∷ cs) in
        let at : Escape → List Mark = λ e. (record { kind = Backslash; written = 92 ∷ take e.length (c ∷ (cs ++ 125 ∷ rest)); meant = e.meaning }) ∷ marks_past e.length (c ∷ (cs ++ 125 ∷ rest)) in
        let with_front : List ℕ → List Mark = λ xs. (record { kind = Backslash; written = 92 ∷ xs; meant = (escape (c ∷ cs)).meaning }) ∷ marks_past n (c ∷ (cs ++ 125 ∷ rest)) in
        ap at same ∙ ap with_front (take-append-le n (c ∷ cs) (125 ∷ rest) within) ∙ ap (λ ms. escape_mark (c ∷ cs) ∷ ms) (more n within)
      where
        newline : nat_eq b 92 ≡ true → (nat_eq b 92 && nat_eq c 10) ≡ false → nat_eq c 10 ≡ false
        newline slash both = rw slash at both

-- marks are written as the text that they are the marks of
written_marks : (taken : ℕ) (text : List ℕ) → written (marks_past taken text) ≡ drop taken text
written_marks zero [] = refl
written_marks (suc taken) [] = refl
written_marks (suc taken) (b ∷ bs) = written_marks taken bs
written_marks zero (b ∷ bs) =
    elim (cases_Bool (nat_eq b 92)) [
      | inl slash ↦ rw slash (
          ap (λ xs. 92 ∷ (take (escape bs).length bs ++ xs)) (written_marks (escape bs).length bs) ∙ ap (λ xs. 92 ∷ xs) (take-append-drop (escape bs).length bs) ∙ ap (λ c. c ∷ bs) (sym (eqb-true b 92 slash)))
      | inr other ↦ rw other (ap (λ xs. b ∷ xs) (written_marks 0 bs))
    ]

-- an item and how its marks stand in a list
record Element (item form : List ℕ) : Type 0 where
  marked : List Mark
  stands : (rest : List ℕ) → marks (form ++ rest) ≡ marked ++ marks rest
  element : IsElement marked item

braced_form : (item : List ℕ) → can_be_braced item ≡ true → Element item (123 ∷ (item ++ 125 ∷ []))
unfolding marks kind_of
braced_form item can =
    let parts = and_parts (are_balanced 0 (marks item)) (not (has_joined_line item)) can in
    record {
      marked = byte_mark 123 ∷ (marks item ++ byte_mark 125 ∷ []);
      stands = λ rest.
          ap (λ xs. byte_mark 123 ∷ marks_past 0 xs) (append_assoc item (125 ∷ []) rest)
          ∙ ap (λ ms. byte_mark 123 ∷ ms) (marks_past-close 0 item rest (omega arith) (no_line (has_joined_line item) parts.1))
          ∙ ap (λ ms. byte_mark 123 ∷ ms) (sym (append_assoc (marks_past 0 item) (byte_mark 125 ∷ []) (marks_past 0 rest)));
      element = subst (IsElement (byte_mark 123 ∷ (marks item ++ byte_mark 125 ∷ []))) (written_marks 0 item) (braced (byte_mark 123) (byte_mark 125) (marks item) refl refl parts.0);
    }
  where
    no_line : (b : Bool) → not b ≡ true → b ≡ false
    no_line true e = cc
    no_line false e = refl

-- ── bare ──

-- a byte that isn't special is a mark by itself
plain_kind : (c : ℕ) → is_special c ≡ false → (kind_of c ≡ Other) × (nat_eq c 92 ≡ false)
unfolding kind_of
plain_kind c plain =
    let white = or_parts (is_white c) _ plain in
    let quote = or_parts (c == 34) _ white.1 in
    let dollar = or_parts (c == 36) _ quote.1 in
    let semicolon = or_parts (c == 59) _ dollar.1 in
    let bracket = or_parts (c == 91) _ semicolon.1 in
    let slash = or_parts (c == 92) _ bracket.1 in
    let closing = or_parts (c == 93) _ slash.1 in
    let brace = or_parts (c == 123) (c == 125) closing.1 in
    (rw white.0 (rw brace.0 (rw brace.1 (rw quote.0 (rw slash.0 refl)))), slash.0)

-- a mark that stands in a bare element
record IsInBare (m : Mark) : Type 0 where
  black : is_white_mark m ≡ false
  opening : m.kind ≢ OpenBrace
  quote : m.kind ≢ Quote

in_bare_kind : (m : Mark) (k : ByteKind) → m.kind ≡ k → k ≢ White → k ≢ OpenBrace → k ≢ Quote → IsInBare m
in_bare_kind m k is white opening quote = record {
  black = ap (λ (k : ByteKind). let b : Bool = elim k [ White ↦ true | _ ↦ false ] in b) is ∙ at k white;
  opening = λ e. opening (sym is ∙ e);
  quote = λ e. quote (sym is ∙ e);
}
  where
    at : (k : ByteKind) → k ≢ White → elim k [ White ↦ true | _ ↦ false ] ≡ false
    at White w = absurd (w refl)
    at k w = refl

-- bytes, and how their marks stand in a bare element
record Bytes (bytes form : List ℕ) : Type 0 where
  marked : List Mark
  stands : (rest : List ℕ) → marks (form ++ rest) ≡ marked ++ marks rest
  means : meant marked ≡ bytes
  black : list_all (λ m. not (is_white_mark m)) marked ≡ true

-- a mark in front of bytes
mark_before : (m : Mark) (bytes form front : List ℕ) → IsInBare m → ((rest : List ℕ) → marks (front ++ rest) ≡ m ∷ marks rest) → (h : Bytes bytes form) → Bytes (m.meant ++ bytes) (front ++ form)
mark_before m bytes form front inside stands h = record {
  marked = m ∷ h.marked;
  stands = λ rest. ap marks (append_assoc front form rest) ∙ stands (form ++ rest) ∙ ap (λ ms. m ∷ ms) (h.stands rest);
  means = ap (λ xs. m.meant ++ xs) h.means;
  black = rw inside.black h.black;
}

-- and the element of such bytes
bare_element : (m : Mark) (bytes form front : List ℕ) → IsInBare m → ((rest : List ℕ) → marks (front ++ rest) ≡ m ∷ marks rest) → Bytes bytes form → Element (m.meant ++ bytes) (front ++ form)
bare_element m bytes form front inside stands h = record {
  marked = m ∷ h.marked;
  stands = λ rest. ap marks (append_assoc front form rest) ∙ stands (form ++ rest) ∙ ap (λ ms. m ∷ ms) (h.stands rest);
  element = subst (IsElement (m ∷ h.marked)) (ap (λ xs. m.meant ++ xs) h.means) (bare m h.marked inside.opening inside.quote (rw inside.black h.black));
}

no_bytes : Bytes [] []
unfolding marks
no_bytes = record { marked = []; stands = λ rest. refl; means = refl; black = refl }

-- a plain byte
plain_in_bare : (c : ℕ) → is_special c ≡ false → IsInBare (byte_mark c)
plain_in_bare c plain = in_bare_kind (byte_mark c) Other (plain_kind c plain).0 (λ e. cc) (λ e. cc) (λ e. cc)

plain_stands : (c : ℕ) → is_special c ≡ false → (rest : List ℕ) → marks ((c ∷ []) ++ rest) ≡ byte_mark c ∷ marks rest
unfolding marks
plain_stands c plain rest = rw (plain_kind c plain).1 refl

plain_bytes : (item : List ℕ) → list_all (λ c. not (is_special c)) item ≡ true → Bytes item item
plain_bytes [] plain = no_bytes
plain_bytes (c ∷ cs) plain =
    let parts = and_parts (not (is_special c)) (list_all (λ c. not (is_special c)) cs) plain in
    let this : is_special c ≡ false = not-true (is_special c) parts.0 in
    mark_before (byte_mark c) cs cs (c ∷ []) (plain_in_bare c this) (plain_stands c this) (plain_bytes cs parts.1)

bare_form : (c : ℕ) (cs : List ℕ) → list_all (λ c. not (is_special c)) (c ∷ cs) ≡ true → Element (c ∷ cs) (c ∷ cs)
bare_form c cs plain =
    let parts = and_parts (not (is_special c)) (list_all (λ c. not (is_special c)) cs) plain in
    let this : is_special c ≡ false = not-true (is_special c) parts.0 in
    bare_element (byte_mark c) cs cs (c ∷ []) (plain_in_bare c this) (plain_stands c this) (plain_bytes cs parts.1)

-- ── with backslashes ──

-- a backslash and the letter of a special byte stand for the byte
abbrev Stands : ℕ → List ℕ → Type 0
Stands c xs = escape (letter_of c ∷ xs) ≡ record { meaning = c ∷ []; length = 1 }

special_stands : (c : ℕ) (xs : List ℕ) → is_special c ≡ true → Stands c xs
unfolding escape
special_stands c xs special = elim (or_cases (is_white c) _ special) [
  | inl white ↦ elim (or_cases (c == 32) _ white) [ inl e ↦ at 32 (eqb-true c 32 e) refl | inr e ↦ control (leb-true 9 c (and_parts (nat_le 9 c) (nat_le c 13) e).0) (leb-true c 13 (and_parts (nat_le 9 c) (nat_le c 13) e).1) ]
  | inr a ↦ elim (or_cases (c == 34) _ a) [
    | inl e ↦ at 34 (eqb-true c 34 e) refl
    | inr a ↦ elim (or_cases (c == 36) _ a) [
      | inl e ↦ at 36 (eqb-true c 36 e) refl
      | inr a ↦ elim (or_cases (c == 59) _ a) [
        | inl e ↦ at 59 (eqb-true c 59 e) refl
        | inr a ↦ elim (or_cases (c == 91) _ a) [
          | inl e ↦ at 91 (eqb-true c 91 e) refl
          | inr a ↦ elim (or_cases (c == 92) _ a) [
            | inl e ↦ at 92 (eqb-true c 92 e) refl
            | inr a ↦ elim (or_cases (c == 93) _ a) [
              | inl e ↦ at 93 (eqb-true c 93 e) refl
              | inr a ↦ elim (or_cases (c == 123) (c == 125) a) [ inl e ↦ at 123 (eqb-true c 123 e) refl | inr e ↦ at 125 (eqb-true c 125 e) refl ]
            ]
          ]
        ]
      ]
    ]
  ]
]
  where
    at : (n : ℕ) → c ≡ n → Stands n xs → Stands c xs
    at n is h = subst (λ c. Stands c xs) (sym is) h

    control : 9 ≤ c → c ≤ 13 → Stands c xs
    control low high = elim (cases_eq c 9) [
      | inl e ↦ at 9 e refl
      | inr a ↦ elim (cases_eq c 10) [
        | inl e ↦ at 10 e refl
        | inr b ↦ elim (cases_eq c 11) [ inl e ↦ at 11 e refl | inr d ↦ elim (cases_eq c 12) [ inl e ↦ at 12 e refl | inr f ↦ at 13 (omega arith) refl ] ]
      ]
    ]

-- a byte behind a backslash
escaped : ℕ → ℕ → Mark
escaped c letter = record { kind = Backslash; written = 92 ∷ letter ∷ []; meant = c ∷ [] }

escaped_in_bare : (c letter : ℕ) → IsInBare (escaped c letter)
unfolding escaped
escaped_in_bare c letter = in_bare_kind (escaped c letter) Backslash refl (λ e. cc) (λ e. cc) (λ e. cc)

escaped_stands : (c letter : ℕ) → ((xs : List ℕ) → escape (letter ∷ xs) ≡ record { meaning = c ∷ []; length = 1 }) → (rest : List ℕ) → marks ((92 ∷ letter ∷ []) ++ rest) ≡ escaped c letter ∷ marks rest
unfolding marks escaped
escaped_stands c letter stands rest =
    ap (λ (e : Escape). let ms : List Mark = (record { kind = Backslash; written = 92 ∷ take e.length (letter ∷ rest); meant = e.meaning }) ∷ marks_past e.length (letter ∷ rest) in ms) (stands rest)

-- one byte as it is written with backslashes
byte_form : (c : ℕ) (bytes form : List ℕ) → Bytes bytes form → Bytes (c ∷ bytes) (cond (is_special c) (92 ∷ letter_of c ∷ form) (c ∷ form))
unfolding escaped
byte_form c bytes form h = elim (cases_Bool (is_special c)) [
  | inl special ↦ rw special (mark_before (escaped c (letter_of c)) bytes form (92 ∷ letter_of c ∷ []) (escaped_in_bare c (letter_of c)) (escaped_stands c (letter_of c) (λ xs. special_stands c xs special)) h)
  | inr plain ↦ rw plain (mark_before (byte_mark c) bytes form (c ∷ []) (plain_in_bare c plain) (plain_stands c plain) h)
]

backslashed_bytes : (item : List ℕ) → Bytes item (with_backslashes item)
backslashed_bytes [] = no_bytes
backslashed_bytes (c ∷ cs) = byte_form c cs (with_backslashes cs) (backslashed_bytes cs)

backslashed_form : (c : ℕ) (cs : List ℕ) → Element (c ∷ cs) (with_backslashes (c ∷ cs))
unfolding escaped
backslashed_form c cs = elim (cases_Bool (is_special c)) [
  | inl special ↦ rw special (bare_element (escaped c (letter_of c)) cs (with_backslashes cs) (92 ∷ letter_of c ∷ []) (escaped_in_bare c (letter_of c)) (escaped_stands c (letter_of c) (λ xs. special_stands c xs special)) (backslashed_bytes cs))
  | inr plain ↦ rw plain (bare_element (byte_mark c) cs (with_backslashes cs) (c ∷ []) (plain_in_bare c plain) (plain_stands c plain) (backslashed_bytes cs))
]

comment_form : (cs : List ℕ) → Element (35 ∷ cs) (92 ∷ with_backslashes (35 ∷ cs))
unfolding escaped escape
comment_form cs = bare_element (escaped 35 35) cs (with_backslashes cs) (92 ∷ 35 ∷ []) (escaped_in_bare 35 35) (escaped_stands 35 35 (λ xs. refl)) (backslashed_bytes cs)

-- ── each item, and the list ──

item_form : (item : List ℕ) → Element item (element_form item)
unfolding marks
item_form [] = braced_form [] refl
item_form (c ∷ cs) = elim (cases_Bool (can_be_bare (c ∷ cs))) [
  | inl can ↦ rw can (bare_form c cs (and_parts (not (begins_comment (c ∷ cs))) (list_all (λ c. not (is_special c)) (c ∷ cs)) can).1)
  | inr not_bare ↦ rw not_bare (elim (cases_Bool (can_be_braced (c ∷ cs))) [
    | inl can ↦ rw can (braced_form (c ∷ cs) can)
    | inr not_braced ↦ rw not_braced (elim (cases_Bool (nat_eq c 35)) [
      | inl comment ↦ rw comment (subst (λ c. Element (c ∷ cs) (92 ∷ with_backslashes (c ∷ cs))) (sym (eqb-true c 35 comment)) (comment_form cs))
      | inr other ↦ rw other (backslashed_form c cs)
    ])
  ])
]

white_end : (rest : List ℕ) → IsElementEnd (marks (32 ∷ rest))
unfolding marks kind_of
white_end rest = refl

-- a blank is passed over
past_blank : (rest : List ℕ) → reading between (marks (32 ∷ rest)) ≡ reading between (marks rest)
unfolding marks kind_of
past_blank rest = refl

ends_others : (items : List (List ℕ)) → IsElementEnd (marks (others_form items))
unfolding marks
ends_others [] = tt
ends_others (x ∷ xs) = white_end (element_form x ++ others_form xs)

form_reads : (item : List ℕ) (rest : List ℕ) (items : List (List ℕ)) → IsElementEnd (marks rest) → reading between (marks rest) ≡ Ok ([], items) → reading between (marks (element_form item ++ rest)) ≡ Ok ([], item ∷ items)
form_reads item rest items end behind =
    let h = item_form item in
    ap (reading between) (h.stands rest) ∙ reads_element h.marked (marks rest) item h.element end ∙ ap (λ r. begun (onto item r)) behind
    ∙ ap (λ (bytes : List ℕ). let read : Reading = Ok ([], bytes ∷ items) in read) (append-nil item)

others_read : (items : List (List ℕ)) → reading between (marks (others_form items)) ≡ Ok ([], items)
unfolding marks
others_read [] = refl
others_read (x ∷ xs) = past_blank (element_form x ++ others_form xs) ∙ form_reads x (others_form xs) xs (ends_others xs) (others_read xs)

-- the form of items reads as the items
pub list_of-list_form : (items : List (List ℕ)) → list_of (list_form items) ≡ Ok items
unfolding list_of list_form marks
list_of-list_form [] = refl
list_of-list_form (x ∷ xs) = ap list_of (list_form-cons x xs) ∙ ap elements (form_reads x (others_form xs) xs (ends_others xs) (others_read xs))

-- and so it does with a blank before each item's
pub list_of-others_form : (items : List (List ℕ)) → list_of (others_form items) ≡ Ok items
unfolding list_of
list_of-others_form items = ap elements (others_read items)
