-- The readings of a list, mark by mark.
use Rattle.std.proofs.Common.{◌≡◌, ◌≢◌, ℕ, zero, suc, ◌+◌, ◌-◌, ◌<◌, ◌≤◌, Bool, true, false, List, [], ◌∷◌, ◌++◌, append_assoc, take, drop, length, get_or, IsUtf8, nat_eq, cond, subst, Some, None, Ok, Err, refl, arith, ap, sym, add-one, ◌∙◌, inl, inr}
use Rattle.std.proofs.lemmas.Bool.{cases_Bool, eqb-true, both_ways}
use Rattle.std.proofs.lemmas.List.{drop_more, take_more, drop-drop, take-take, drop-take, take-append-drop, drop_all, length-drop, length-take, length-append}
use Rattle.std.proofs.lemmas.Str.{IsUtf8-append}
use Rattle.tcl_text.specs.Backslash.{is_white, kind_of, Escape, escape, byte_mark, escape_mark, marks_past, marks, Mark}
use Rattle.tcl_text.specs.Readings.{ListPlace, between, in_braces, in_quotes, in_bare, place_after, Reading, onto, begun, with_mark, reading, elements}
use Rattle.tcl_text.specs.Splitting.{ReadsTo, StepsInBraces, FindsBrace, Unescapes, within, ends, ended}
use Rattle.tcl_text.proofs.BackslashLemmas.{escape_within, escape_short}
use Rattle.tcl_text.proofs.Utf8Lemmas.{cut_at_ascii, escape_utf8}
use Rattle.tcl_text.specs.declared.splitting.ByteKind.{ByteKind}
use Rattle.tcl_text.specs.declared.splitting.ByteKind.TheVariants.{White, OpenBrace, CloseBrace, Quote, Backslash, Other}

-- bytes in front of bytes
pub onto-onto : (xs ys : List ℕ) (r : Reading) → onto xs (onto ys r) ≡ onto (xs ++ ys) r
onto-onto xs ys (Ok r) = ap (λ (bytes : List ℕ). let read : Reading = Ok (bytes, r.1) in read) (sym (append_assoc xs ys r.0))
onto-onto xs ys (Err f) = refl

pub onto-nil : (r : Reading) → onto [] r ≡ r
onto-nil (Ok r) = refl
onto-nil (Err f) = refl

-- the marks past some bytes are those of what stands behind them
pub marks_past-drop : (n : ℕ) (text : List ℕ) → marks_past n text ≡ marks (drop n text)
unfolding marks
marks_past-drop zero text = refl
marks_past-drop (suc n) [] = refl
marks_past-drop (suc n) (b ∷ bs) = marks_past-drop n bs

-- what the tests say of a byte of a kind
abbrev pub Tells : ByteKind → Bool → Bool → Bool → Bool → Bool → Type 0
Tells White white opening closing quote backslash = white ≡ true
Tells OpenBrace white opening closing quote backslash = opening ≡ true
Tells CloseBrace white opening closing quote backslash = closing ≡ true
Tells Quote white opening closing quote backslash = quote ≡ true
Tells Backslash white opening closing quote backslash = backslash ≡ true
Tells Other white opening closing quote backslash = (white ≡ false) × (opening ≡ false) × (closing ≡ false) × (quote ≡ false) × (backslash ≡ false)

pub tells : (b : ℕ) → Tells (kind_of b) (is_white b) (nat_eq b 123) (nat_eq b 125) (nat_eq b 34) (nat_eq b 92)
unfolding kind_of
tells b = at (is_white b) (nat_eq b 123) (nat_eq b 125) (nat_eq b 34) (nat_eq b 92)
  where
    at : (w o c q s : Bool) → Tells (cond w White (cond o OpenBrace (cond c CloseBrace (cond q Quote (cond s Backslash Other))))) w o c q s
    at true o c q s = refl
    at false true c q s = refl
    at false false true q s = refl
    at false false false true s = refl
    at false false false false true = refl
    at false false false false false = (refl, refl, refl, refl, refl)

pub told : (b : ℕ) (k : ByteKind) → kind_of b ≡ k → Tells k (is_white b) (nat_eq b 123) (nat_eq b 125) (nat_eq b 34) (nat_eq b 92)
told b k is = subst (λ k. Tells k (is_white b) (nat_eq b 123) (nat_eq b 125) (nat_eq b 34) (nat_eq b 92)) is (tells b)

-- a byte that is no backslash is a mark
not_backslash : (b : ℕ) → kind_of b ≢ Backslash → nat_eq b 92 ≡ false
unfolding kind_of
not_backslash b other = elim (cases_Bool (nat_eq b 92)) [
  | inl is ↦ absurd (other (ap kind_of (eqb-true b 92 is)))
  | inr not ↦ not
]

pub marks_byte : (b : ℕ) (bs : List ℕ) → kind_of b ≢ Backslash → marks (b ∷ bs) ≡ byte_mark b ∷ marks bs
unfolding marks
marks_byte b bs other = rw (not_backslash b other) refl

pub reading_byte : (place : ListPlace) (b : ℕ) (bs : List ℕ) → kind_of b ≢ Backslash → reading place (marks (b ∷ bs)) ≡ with_mark place (kind_of b) (byte_mark b) (reading (place_after place (kind_of b)) (marks bs))
reading_byte place b bs other = ap (reading place) (marks_byte b bs other)

-- the same of a known kind
pub reading_kind : (place : ListPlace) (k : ByteKind) (b : ℕ) (bs : List ℕ) → k ≢ Backslash → kind_of b ≡ k → reading place (marks (b ∷ bs)) ≡ with_mark place k (byte_mark b) (reading (place_after place k) (marks bs))
reading_kind place k b bs other is =
    reading_byte place b bs (λ e. other (sym is ∙ e)) ∙ ap (λ k. with_mark place k (byte_mark b) (reading (place_after place k) (marks bs))) is

-- and a backslash is one with what it takes
pub marks_escape : (b : ℕ) (bs : List ℕ) → kind_of b ≡ Backslash → marks (b ∷ bs) ≡ escape_mark bs ∷ marks (drop (escape bs).length bs)
unfolding marks
marks_escape b bs is =
    let slash : nat_eq b 92 ≡ true = told b Backslash is in
    rw slash (ap (λ ms. escape_mark bs ∷ ms) (marks_past-drop (escape bs).length bs))

pub reading_escape : (place : ListPlace) (b : ℕ) (bs : List ℕ) → kind_of b ≡ Backslash → reading place (marks (b ∷ bs)) ≡ with_mark place Backslash (escape_mark bs) (reading (place_after place Backslash) (marks (drop (escape bs).length bs)))
reading_escape place b bs is = ap (reading place) (marks_escape b bs is)

-- ── in braces ──

-- a byte in braces that isn't a brace
in_braces_other : (depth : ℕ) (k : ByteKind) (m : Mark) (r : Reading) → k ≢ OpenBrace → k ≢ CloseBrace → (with_mark (in_braces depth) k m r ≡ onto m.written r) × (place_after (in_braces depth) k ≡ in_braces depth)
in_braces_other (suc d) White m r o c = (refl, refl)
in_braces_other depth OpenBrace m r o c = absurd (o refl)
in_braces_other depth CloseBrace m r o c = absurd (c refl)
in_braces_other (suc d) Quote m r o c = (refl, refl)
in_braces_other (suc d) Backslash m r o c = (refl, refl)
in_braces_other (suc d) Other m r o c = (refl, refl)
in_braces_other zero k m r o c = (refl, refl)

in_braces_open : (depth : ℕ) (m : Mark) (r : Reading) → with_mark (in_braces depth) OpenBrace m r ≡ onto m.written r
in_braces_open zero m r = refl
in_braces_open (suc d) m r = refl

-- one step from a text that isn't empty
pub step_other : (depth : ℕ) (text : List ℕ) → 0 < length text → kind_of (get_or text 0 0) ≢ Backslash → kind_of (get_or text 0 0) ≢ OpenBrace → kind_of (get_or text 0 0) ≢ CloseBrace → StepsInBraces depth text (Some (1, depth))
step_other depth [] some s o c = absurd (omega arith)
step_other depth (b ∷ bs) some s o c =
    let k = kind_of b in
    let h = in_braces_other depth k (byte_mark b) (reading (place_after (in_braces depth) k) (marks bs)) o c in (
      omega arith,
      omega arith,
      omega arith,
      reading_byte (in_braces depth) b bs s ∙ h.0 ∙ ap (λ place. onto (b ∷ []) (reading place (marks bs))) h.1,
    )

pub step_escape : (depth : ℕ) (text : List ℕ) → 0 < length text → kind_of (get_or text 0 0) ≡ Backslash → StepsInBraces depth text (Some ((escape (drop 1 text)).length + 1, depth))
step_escape depth [] some is = absurd (omega arith)
step_escape depth (b ∷ bs) some is =
    let slash : nat_eq b 92 ≡ true = told b Backslash is in
    let n = (escape bs).length in
    let h = in_braces_other depth Backslash (escape_mark bs) (reading (in_braces depth) (marks (drop n bs))) (λ e. cc) (λ e. cc) in (
      (let within : n ≤ length bs = escape_within bs in omega arith),
      omega arith,
      omega arith,
      rw (add-one n) (reading_escape (in_braces depth) b bs is ∙ h.0 ∙ ap (λ c. onto (c ∷ take n bs) (reading (in_braces depth) (marks (drop n bs)))) (sym (eqb-true b 92 slash))),
    )

pub step_open : (depth : ℕ) (text : List ℕ) → 0 < length text → kind_of (get_or text 0 0) ≡ OpenBrace → StepsInBraces depth text (Some (1, depth + 1))
step_open depth [] some is = absurd (omega arith)
step_open depth (b ∷ bs) some is = (
  omega arith,
  omega arith,
  omega arith,
  rw (add-one depth) (reading_kind (in_braces depth) OpenBrace b bs (λ e. cc) is ∙ in_braces_open depth (byte_mark b) (reading (in_braces (suc depth)) (marks bs))),
)

pub step_inner : (depth : ℕ) (text : List ℕ) → 0 < length text → kind_of (get_or text 0 0) ≡ CloseBrace → (depth ≡ 0 → ⊥) → StepsInBraces depth text (Some (1, depth - 1))
step_inner depth [] some is inner = absurd (omega arith)
step_inner zero (b ∷ bs) some is inner = absurd (inner refl)
step_inner (suc depth) (b ∷ bs) some is inner =
    let e : suc depth - 1 ≡ depth = omega arith in
    (omega arith, omega arith, omega arith, rw e (reading_kind (in_braces (suc depth)) CloseBrace b bs (λ e. cc) is))

pub step_close : (depth : ℕ) (text : List ℕ) → 0 < length text → kind_of (get_or text 0 0) ≡ CloseBrace → depth ≡ 0 → StepsInBraces depth text None
step_close depth [] some is none = absurd (omega arith)
step_close depth (b ∷ bs) some is none =
    (eqb-true b 125 (told b CloseBrace is), rw none (reading_kind (in_braces 0) CloseBrace b bs (λ e. cc) is))

pub ruleset brace_steps = (step_other, step_escape, step_open, step_inner, step_close)

-- a front and what follows it are a longer front
pub take_add : (at n : ℕ) (text : List ℕ) → take at text ++ take n (drop at text) ≡ take (at + n) text
take_add at n text =
    let front : take at (take (at + n) text) ≡ take at text = take-take at (at + n) text (omega arith) in
    ap (λ xs. xs ++ take n (drop at text)) (sym front) ∙ ap (λ xs. take at (take (at + n) text) ++ xs) (sym (drop-take at n text)) ∙ take-append-drop at (take (at + n) text)

-- one step more of a reading
pub ReadsTo-step : (start place next : ListPlace) (text bytes more : List ℕ) (at n : ℕ) → ReadsTo start text at bytes place → reading place (marks (drop at text)) ≡ onto more (reading next (marks (drop n (drop at text)))) → ReadsTo start text (at + n) (bytes ++ more) next
ReadsTo-step start place next text bytes more at n before step =
    before ∙ ap (onto bytes) step ∙ onto-onto bytes more _ ∙ ap (λ rest. onto (bytes ++ more) (reading next (marks rest))) (drop-drop n at text)

module _ (text slice : List ℕ) (at depth : ℕ) (is : slice ≡ drop at text) (reads : ReadsTo (in_braces 0) text at (take at text) (in_braces depth)) where
  pub brace_turn : (n next : ℕ) → StepsInBraces depth slice (Some (n, next)) → ReadsTo (in_braces 0) text (at + n) (take (at + n) text) (in_braces next)
  brace_turn n next step =
      let h : StepsInBraces depth (drop at text) (Some (n, next)) = subst (λ rest. StepsInBraces depth rest (Some (n, next))) is step in
      subst (λ bytes. ReadsTo (in_braces 0) text (at + n) bytes (in_braces next)) (take_add at n text)
      (ReadsTo-step (in_braces 0) (in_braces depth) (in_braces next) text (take at text) (take n (drop at text)) at n reads h.3)

  pub brace_missing : length text ≤ at → FindsBrace text None
  unfolding marks
  brace_missing past = reads ∙ ap (onto (take at text)) (ap (λ rest. reading (in_braces depth) (marks rest)) (drop_all at text past))

-- ── in quotes, and bare ──

-- a byte in front that is no backslash and no end
plain_byte : (quoted : Bool) (b : ℕ) (bs : List ℕ) → (b ≡ 92 → ⊥) → ends quoted b ≡ false → reading (within quoted) (marks (b ∷ bs)) ≡ onto (b ∷ []) (reading (within quoted) (marks bs))
plain_byte true b bs slash inner =
    reading_byte in_quotes b bs (λ is. slash (eqb-true b 92 (told b Backslash is))) ∙ at (kind_of b) (λ is. both_ways (nat_eq b 34) inner (told b Quote is))
  where
    at : (k : ByteKind) → k ≢ Quote → with_mark in_quotes k (byte_mark b) (reading (place_after in_quotes k) (marks bs)) ≡ onto (b ∷ []) (reading in_quotes (marks bs))
    at Quote other = absurd (other refl)
    at k other = refl
plain_byte false b bs slash inner =
    reading_byte in_bare b bs (λ is. slash (eqb-true b 92 (told b Backslash is))) ∙ at (kind_of b) (λ is. both_ways (is_white b) inner (told b White is))
  where
    at : (k : ByteKind) → k ≢ White → with_mark in_bare k (byte_mark b) (reading (place_after in_bare k) (marks bs)) ≡ onto (b ∷ []) (reading in_bare (marks bs))
    at White other = absurd (other refl)
    at k other = refl

pub ReadsTo-start : (place : ListPlace) (text : List ℕ) → ReadsTo place text 0 [] place
ReadsTo-start place text = sym (onto-nil (reading place (marks text)))

pub run_turn : (quoted : Bool) (text : List ℕ) (at : ℕ) → at < length text → (get_or text at 0 ≡ 92 → ⊥) → ends quoted (get_or text at 0) ≡ false → ReadsTo (within quoted) text at (take at text) (within quoted) → ReadsTo (within quoted) text (at + 1) (take (at + 1) text) (within quoted)
run_turn quoted text at inside slash inner before =
    let b = get_or text at 0 in
    let step : reading (within quoted) (marks (drop at text)) ≡ onto (b ∷ []) (reading (within quoted) (marks (drop (at + 1) text))) =
    ap (λ rest. reading (within quoted) (marks rest)) (drop_more text at 0 inside) ∙ plain_byte quoted b (drop (at + 1) text) slash inner
    in
    before ∙ ap (onto (take at text)) step ∙ onto-onto (take at text) (b ∷ []) _ ∙ ap (λ bytes. onto bytes (reading (within quoted) (marks (drop (at + 1) text)))) (sym (take_more text at 0 inside))

pub ruleset run_turns = (ReadsTo-start, run_turn)

-- a run without backslashes, and what follows it
pub Unescapes-run : (quoted : Bool) (text bytes : List ℕ) (at run : ℕ) → Unescapes quoted text bytes at → run ≤ length (drop at text) → ReadsTo (within quoted) (drop at text) run (take run (drop at text)) (within quoted) → Unescapes quoted text (bytes ++ take run (drop at text)) (at + run)
Unescapes-run quoted text bytes at run h fits reads =
    let rest = drop at text in
    let same : (bytes ++ take run rest) ++ drop (at + run) text ≡ bytes ++ rest =
    append_assoc bytes (take run rest) (drop (at + run) text) ∙ ap (λ xs. bytes ++ (take run rest ++ xs)) (sym (drop-drop run at text)) ∙ ap (λ xs. bytes ++ xs) (take-append-drop run rest)
    in
    record {
      fits = omega (arith, length-drop at text);
      reads = ReadsTo-step (within quoted) (within quoted) (within quoted) text bytes (take run rest) at run h.reads reads;
      short = (let taken : length (take run rest) ≤ run = omega (arith, length-take run rest) in let before : length bytes ≤ at = h.short in omega (arith, length-append bytes (take run rest)));
      utf8 = λ whole. subst IsUtf8 (sym same) (h.utf8 whole);
    }

escape_byte : (quoted : Bool) (bs : List ℕ) → reading (within quoted) (marks (92 ∷ bs)) ≡ onto (escape bs).meaning (reading (within quoted) (marks (drop (escape bs).length bs)))
unfolding kind_of
escape_byte true bs = reading_escape in_quotes 92 bs refl
escape_byte false bs = reading_escape in_bare 92 bs refl

-- a backslash, and what follows what it takes
pub Unescapes-escape : (quoted : Bool) (text bytes : List ℕ) (at : ℕ) → Unescapes quoted text bytes at → at < length text → get_or text at 0 ≡ 92 →
    let e : Escape = escape (drop (at + 1) text) in Unescapes quoted text (bytes ++ e.meaning) (at + (e.length + 1))
Unescapes-escape quoted text bytes at h inside slash =
    let behind = drop (at + 1) text in
    let n = (escape behind).length in
    let opened : drop at text ≡ 92 ∷ behind = drop_more text at 0 inside ∙ ap (λ b. b ∷ behind) slash in
    let past : drop n behind ≡ drop (at + (n + 1)) text =
    drop-drop n (at + 1) text ∙ ap (λ i. drop i text) (let e : at + 1 + n ≡ at + (n + 1) = omega arith in e)
    in
    let within_text : n ≤ length behind = escape_within behind in
    record {
      fits = omega (arith, length-drop (at + 1) text);
      reads =
          h.reads
          ∙ ap (onto bytes) (ap (λ rest. reading (within quoted) (marks rest)) opened ∙ escape_byte quoted behind ∙ ap (λ rest. onto (escape behind).meaning (reading (within quoted) (marks rest))) past)
          ∙ onto-onto bytes (escape behind).meaning _;
      short = (let before : length bytes ≤ at = h.short in omega (arith, escape_short behind, length-append bytes (escape behind).meaning));
      utf8 = λ whole.
          let cut = cut_at_ascii bytes behind 92 (omega arith) (subst (λ rest. IsUtf8 (bytes ++ rest)) opened (h.utf8 whole)) in
          subst IsUtf8 (sym (append_assoc bytes (escape behind).meaning (drop (at + (n + 1)) text)))
          (IsUtf8-append bytes ((escape behind).meaning ++ drop (at + (n + 1)) text) cut.0
          (subst (λ rest. IsUtf8 ((escape behind).meaning ++ rest)) past (escape_utf8 behind cut.1)));
    }

-- the same as the code has them: slices of the text, and what was written
pub Unescapes-run_read : (quoted : Bool) (text bytes new slice : List ℕ) (at run : ℕ) → slice ≡ drop at text → Unescapes quoted text bytes at → run ≤ length slice → ReadsTo (within quoted) slice run (take run slice) (within quoted) →
    new ≡ bytes ++ take (at + run - at) (drop at text) → Unescapes quoted text new (at + run)
Unescapes-run_read quoted text bytes new slice at run is h fits reads written =
    let count : at + run - at ≡ run = omega arith in
    subst (λ xs. Unescapes quoted text xs (at + run)) (sym (written ∙ ap (λ n. bytes ++ take n (drop at text)) count))
    (Unescapes-run quoted text bytes at run h (subst (λ xs. run ≤ length xs) is fits) (subst (λ xs. ReadsTo (within quoted) xs run (take run xs) (within quoted)) is reads))

pub Unescapes-escape_read : (quoted : Bool) (text bytes new slice : List ℕ) (at : ℕ) (e : Escape) → slice ≡ drop (at + 1) text → Unescapes quoted text bytes at → at < length text → get_or text at 0 ≡ 92 → e ≡ escape slice →
    new ≡ bytes ++ e.meaning → Unescapes quoted text new (at + (e.length + 1))
Unescapes-escape_read quoted text bytes new slice at e is h inside slash taken written =
    let same : e ≡ escape (drop (at + 1) text) = taken ∙ ap escape is in
    subst (λ xs. Unescapes quoted text xs (at + (e.length + 1))) (sym written)
    (subst (λ (e : Escape). Unescapes quoted text (bytes ++ e.meaning) (at + (e.length + 1))) (sym same) (Unescapes-escape quoted text bytes at h inside slash))

-- ── an element and the list behind it ──

opened : (r : Reading) → begun r ≡ ended (elements (begun r))
opened (Ok r) = refl
opened (Err f) = refl

-- where the end or white space stands, no element is open
pub reading_between : (ms : List Mark) → reading between ms ≡ ended (elements (reading between ms))
reading_between [] = refl
reading_between (m ∷ ms) = at m.kind m (reading (place_after between m.kind) ms) (reading_between ms)
  where
    at : (k : ByteKind) (m : Mark) (r : Reading) → reading between ms ≡ ended (elements (reading between ms)) → with_mark between k m (reading (place_after between k) ms) ≡ ended (elements (with_mark between k m (reading (place_after between k) ms)))
    at White m r behind = behind
    at OpenBrace m r behind = opened (reading (in_braces 0) ms)
    at Quote m r behind = opened (reading in_quotes ms)
    at k m r behind = opened (onto m.meant (reading in_bare ms))
