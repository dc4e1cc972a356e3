-- The patterns of a text, one after another.
use Rattle.std.proofs.Common.{◌≡◌, ◌≢◌, ℕ, zero, suc, ◌+◌, ◌-◌, ◌<◌, ◌≤◌, Bool, true, false, cond, List, [], ◌∷◌, ◌++◌, append_assoc, append-nil, length, take, drop, get_or, nat_le, ◌&&◌, length-append, IsUtf8, Ok, Err, Some, None, refl, sym, ap, ◌∙◌, subst, inl, inr, arith, eqb, nat_eq}
use Rattle.std.specs.Prelude.{if◌then◌else◌}
use Rattle.std.specs.List.{prefix_len}
use Rattle.std.specs.Str.{IsCharBoundary}
use Rattle.std.proofs.lemmas.Bool.{cases_Bool, cases_lt, le-leb}
use Rattle.std.proofs.lemmas.Bool.Decides.{nat_tests}
use Rattle.std.proofs.lemmas.List.{drop_more, drop_all, drop_at, get_or_at}
use Rattle.std.proofs.lemmas.List.Sums.{prefix_len-le-length, prefix_len-drop_no, prefix_len-drop_all, prefix_len_stops, prefix_len_passes, sum_by_push}
use Rattle.std.proofs.lemmas.Str.{IsCharBoundary-after_ascii, IsCharBoundary-start, IsCharBoundary-at_seam, IsUtf8-drop}
use Rattle.tcl_text.specs.Backslash.{is_white}
use Rattle.tk_sequences.specs.Patterns.{count_of, times_of}
use Rattle.tk_sequences.specs.Reading.{OrFault, ReadingPlace, Between, Within, patterns_from, counted, onto, pattern_of, plain_pattern, plain_key, behind_white, CutsOff, IsRefused}
use Rattle.tk_sequences.specs.declared.fault.SequenceFault.{SequenceFault}
use Rattle.tk_sequences.specs.declared.fault.SequenceFault.TheVariants.{BadSequence, BadKeysym}
use Rattle.tk_sequences.specs.declared.pattern.Pattern.{Pattern}

-- ---- one pattern behind others

abbrev pub patterns_behind : List Pattern → OrFault (List Pattern) → OrFault (List Pattern)
patterns_behind front (Ok more) = Ok (front ++ more)
patterns_behind front (Err fault) = Err fault

pub patterns_behind-onto : (front : List Pattern) (pattern : Pattern) (rest : OrFault (List Pattern)) → patterns_behind (front ++ pattern ∷ []) rest ≡ patterns_behind front (onto pattern rest)
patterns_behind-onto front pattern (Ok more) = ap Ok (append_assoc front (pattern ∷ []) more)
patterns_behind-onto front pattern (Err fault) = refl

-- ---- white space in front

white_low : (byte : ℕ) → is_white byte ≡ true → byte < 128
white_low byte is = grind (arith, nat_tests)

-- a text may be cut behind bytes that stand for characters of their own
pub front_boundary : (test : ℕ → Bool) → ((byte : ℕ) → test byte ≡ true → byte < 128) → (text : List ℕ) → IsUtf8 text → IsCharBoundary text (prefix_len test text)
front_boundary test low text utf8 = by (prefix_len test text) refl
  where
    by : (n : ℕ) → prefix_len test text ≡ n → IsCharBoundary text n
    by zero is = IsCharBoundary-start text utf8
    by (suc n) is =
        let within = prefix_len-le-length test text in
        let inside : n < length text = omega arith in
        let before : n < prefix_len test text = omega arith in
        subst (IsCharBoundary text) (omega arith) (IsCharBoundary-after_ascii text n utf8 inside (low (get_or text n 0) (prefix_len_passes test text n 0 before)))

pub white_boundary : (text : List ℕ) → IsUtf8 text → IsCharBoundary text (prefix_len is_white text)
white_boundary = front_boundary is_white white_low

pub white-skip : (whole : List ℕ) (room : ℕ) (text : List ℕ) → patterns_from whole Between room text ≡ patterns_from whole Between room (drop (prefix_len is_white text) text)
white-skip whole room [] = refl
white-skip whole room (byte ∷ bytes) = elim (cases_Bool (is_white byte)) [
  | inl white ↦
      let at : prefix_len is_white (byte ∷ bytes) ≡ suc (prefix_len is_white bytes) = rw white (omega arith) in
      let behind : patterns_from whole Between room (byte ∷ bytes) ≡ patterns_from whole Between room bytes = rw white refl in
      behind ∙ white-skip whole room bytes ∙ ap (λ n. patterns_from whole Between room (drop n (byte ∷ bytes))) (sym at)
  | inr black ↦
      let at : prefix_len is_white (byte ∷ bytes) ≡ 0 = rw black refl in
      ap (λ n. patterns_from whole Between room (drop n (byte ∷ bytes))) (sym at)
]

-- behind it none stands in front
pub black_first : (text : List ℕ) → 0 < length (drop (prefix_len is_white text) text) → is_white (get_or (drop (prefix_len is_white text) text) 0 0) ≡ false
black_first text some = elim (cases_lt (prefix_len is_white text) (length text)) [
  | inl inside ↦
      ap (λ (rest : List ℕ). is_white (get_or rest 0 0)) (drop_more text (prefix_len is_white text) 0 inside) ∙ prefix_len_stops is_white text 0 inside
  | inr past ↦ absurd (let none : length (drop (prefix_len is_white text) text) ≡ 0 = ap length (drop_all (prefix_len is_white text) text past) in omega arith)
]

not_eqb : (a b : ℕ) → a ≢ b → nat_eq a b ≡ false
not_eqb a b differ = grind (arith, nat_tests)

-- ---- what stands behind a bracket

pub unclosed : (whole inner : List ℕ) (room : ℕ) (text : List ℕ) → ((k : ℕ) → k < length text → get_or text k 0 ≢ 62) → patterns_from whole (Within inner) room text ≡ Err (BadSequence whole)
unclosed whole inner room [] none = refl
unclosed whole inner room (byte ∷ bytes) none =
    let other : nat_eq byte 62 ≡ false = not_eqb byte 62 (none 0 (omega arith)) in
    let behind : patterns_from whole (Within inner) room (byte ∷ bytes) ≡ patterns_from whole (Within (inner ++ byte ∷ [])) room bytes = rw other refl in
    behind ∙ unclosed whole (inner ++ byte ∷ []) room bytes (λ k lt. none (suc k) (omega arith))

pub closed : (whole front : List ℕ) (room : ℕ) (inner text : List ℕ) → ((k : ℕ) → k < length inner → get_or inner k 0 ≢ 62)
    → patterns_from whole (Within front) room (inner ++ 62 ∷ text) ≡ counted whole room (pattern_of whole (front ++ inner)) (λ left. patterns_from whole Between left text)
closed whole front room [] text none = ap (λ (bytes : List ℕ). counted whole room (pattern_of whole bytes) (λ left. patterns_from whole Between left text)) (sym (append-nil front))
closed whole front room (byte ∷ bytes) text none =
    let other : nat_eq byte 62 ≡ false = not_eqb byte 62 (none 0 (omega arith)) in
    let behind : patterns_from whole (Within front) room (byte ∷ (bytes ++ 62 ∷ text)) ≡ patterns_from whole (Within (front ++ byte ∷ [])) room (bytes ++ 62 ∷ text) = rw other refl in
    behind ∙ closed whole (front ++ byte ∷ []) room bytes text (λ k lt. none (suc k) (omega arith))
    ∙ ap (λ (all : List ℕ). counted whole room (pattern_of whole all) (λ left. patterns_from whole Between left text)) (append_assoc front (byte ∷ []) bytes)

-- ---- the first pattern

ascii_key : (whole : List ℕ) (byte : ℕ) (pattern : Pattern) → plain_pattern whole byte ≡ Ok pattern → byte < 128
unfolding plain_pattern
ascii_key whole byte pattern is = by (nat_le 32 byte && nat_le byte 126) refl is
  where
    by : (test : Bool) → (nat_le 32 byte && nat_le byte 126) ≡ test → plain_key whole (cond test (Some (byte - 32)) None) ≡ Ok pattern → byte < 128
    by true at is = grind (arith, nat_tests)
    by false at is = absurd (cc)

pub plain_first : (whole text : List ℕ) (pattern : Pattern) → 0 < length text → is_white (get_or text 0 0) ≡ false → get_or text 0 0 ≢ 60
    → plain_pattern whole (get_or text 0 0) ≡ Ok pattern → CutsOff whole pattern text (drop 1 text)
plain_first whole [] pattern some black other is = absurd (omega arith)
plain_first whole (byte ∷ bytes) pattern some black other is = λ room. rw (black, not_eqb byte 60 other, is) refl

pub plain_boundary : (whole text : List ℕ) (pattern : Pattern) → IsUtf8 text → 0 < length text → plain_pattern whole (get_or text 0 0) ≡ Ok pattern → IsCharBoundary text 1
plain_boundary whole text pattern utf8 some is = subst (IsCharBoundary text) (omega arith) (IsCharBoundary-after_ascii text 0 utf8 some (ascii_key whole (get_or text 0 0) pattern is))

pub plain_refused : (whole text : List ℕ) (fault : SequenceFault) → 0 < length text → is_white (get_or text 0 0) ≡ false → get_or text 0 0 ≢ 60
    → plain_pattern whole (get_or text 0 0) ≡ Err fault → IsRefused whole text fault
plain_refused whole [] fault some black other is = absurd (omega arith)
plain_refused whole (byte ∷ bytes) fault some black other is = λ room. rw (black, not_eqb byte 60 other, is) refl

-- behind a bracket
opened : (whole text : List ℕ) (room : ℕ) → 0 < length text → get_or text 0 0 ≡ 60 → patterns_from whole Between room text ≡ patterns_from whole (Within []) room (drop 1 text)
opened whole [] room some at = absurd (omega arith)
opened whole (byte ∷ bytes) room some at = ap (λ b. patterns_from whole Between room (b ∷ bytes)) at

-- the bytes up to the closing bracket
seam : (text inner behind : List ℕ) → 0 < length text → get_or text 0 0 ≡ 60 → drop 1 text ≡ inner ++ 62 ∷ behind → text ≡ (60 ∷ (inner ++ 62 ∷ [])) ++ behind
seam [] inner behind some at is = absurd (omega arith)
seam (byte ∷ bytes) inner behind some at is = ap (λ b. b ∷ bytes) at ∙ ap (λ (bs : List ℕ). 60 ∷ bs) (is ∙ sym (append_assoc inner (62 ∷ []) behind))

seam_length : (text inner behind : List ℕ) → text ≡ (60 ∷ (inner ++ 62 ∷ [])) ++ behind → length text - length behind ≡ length (60 ∷ (inner ++ 62 ∷ []))
seam_length text inner behind is = omega (arith, length-append (60 ∷ (inner ++ 62 ∷ [])) behind, ap length is)

-- what stands behind it is a text
pub behind_utf8 : (text inner behind : List ℕ) → IsUtf8 text → text ≡ inner ++ 62 ∷ behind → IsUtf8 behind
behind_utf8 text inner behind utf8 is =
    let n = length inner in
    let whole : IsUtf8 (inner ++ 62 ∷ behind) = subst IsUtf8 is utf8 in
    let inside : n < length (inner ++ 62 ∷ behind) = omega (arith, length-append inner (62 ∷ behind)) in
    let at : get_or (inner ++ 62 ∷ behind) n 0 ≡ 62 = get_or_at inner 62 behind 0 n refl in
    let low : get_or (inner ++ 62 ∷ behind) n 0 < 128 = omega arith in
    let cut : drop (n + 1) (inner ++ 62 ∷ behind) ≡ behind = ap (drop (n + 1)) (sym (append_assoc inner (62 ∷ []) behind)) ∙ drop_at (inner ++ 62 ∷ []) behind (n + 1) (length-append inner (62 ∷ [])) in
    subst IsUtf8 cut (IsUtf8-drop (inner ++ 62 ∷ behind) (n + 1) whole (IsCharBoundary-after_ascii (inner ++ 62 ∷ behind) n whole inside low))

pub bracket_boundary : (text inner behind : List ℕ) → IsUtf8 behind → 0 < length text → get_or text 0 0 ≡ 60 → drop 1 text ≡ inner ++ 62 ∷ behind
    → (0 < length text - length behind) × IsCharBoundary text (length text - length behind)
bracket_boundary text inner behind utf8 some at is =
    let whole = seam text inner behind some at is in
    let long = seam_length text inner behind whole in
    (omega arith, subst (IsCharBoundary text) (sym long) (IsCharBoundary-at_seam text (60 ∷ (inner ++ 62 ∷ [])) behind whole utf8))

pub bracket_behind : (text inner behind : List ℕ) → 0 < length text → get_or text 0 0 ≡ 60 → drop 1 text ≡ inner ++ 62 ∷ behind → drop (length text - length behind) text ≡ behind
bracket_behind text inner behind some at is =
    let whole = seam text inner behind some at is in
    ap (λ n. drop n text) (seam_length text inner behind whole) ∙ ap (drop (length (60 ∷ (inner ++ 62 ∷ [])))) whole ∙ drop_at (60 ∷ (inner ++ 62 ∷ [])) behind (length (60 ∷ (inner ++ 62 ∷ []))) refl

pub bracket_first : (whole text inner behind : List ℕ) (pattern : Pattern) → 0 < length text → get_or text 0 0 ≡ 60 → drop 1 text ≡ inner ++ 62 ∷ behind
    → ((k : ℕ) → k < length inner → get_or inner k 0 ≢ 62) → pattern_of whole inner ≡ Ok pattern → CutsOff whole pattern text (drop (length text - length behind) text)
bracket_first whole text inner behind pattern some at is none read = λ room.
    opened whole text room some at ∙ ap (patterns_from whole (Within []) room) is ∙ closed whole [] room inner behind none
    ∙ ap (λ (p : OrFault Pattern). counted whole room p (λ left. patterns_from whole Between left behind)) read
    ∙ ap (λ (rest : List ℕ). counted whole room (Ok pattern) (λ left. patterns_from whole Between left rest)) (sym (bracket_behind text inner behind some at is))

pub bracket_refused : (whole text inner behind : List ℕ) (fault : SequenceFault) → 0 < length text → get_or text 0 0 ≡ 60 → drop 1 text ≡ inner ++ 62 ∷ behind
    → ((k : ℕ) → k < length inner → get_or inner k 0 ≢ 62) → pattern_of whole inner ≡ Err fault → IsRefused whole text fault
bracket_refused whole text inner behind fault some at is none read = λ room.
    opened whole text room some at ∙ ap (patterns_from whole (Within []) room) is ∙ closed whole [] room inner behind none
    ∙ ap (λ (p : OrFault Pattern). counted whole room p (λ left. patterns_from whole Between left behind)) read

pub bracket_open : (whole text : List ℕ) → 0 < length text → get_or text 0 0 ≡ 60 → ((k : ℕ) → k < length (drop 1 text) → get_or (drop 1 text) k 0 ≢ 62) → IsRefused whole text (BadSequence whole)
bracket_open whole text some at none = λ room. opened whole text room some at ∙ unclosed whole [] room (drop 1 text) none

-- ---- the loop over them

-- the patterns that were read, with those of what is left
pub record IsRead (whole : List ℕ) (patterns : List Pattern) (room : ℕ) (rest : List ℕ) : Type 0 where
  pub same : patterns_behind patterns (patterns_from whole Between room rest) ≡ patterns_from whole Between 32 whole
  pub counted : count_of patterns + room ≡ 32
  pub black : 0 < length rest → is_white (get_or rest 0 0) ≡ false
  pub utf8 : IsUtf8 rest

patterns_behind-nil : (patterns : OrFault (List Pattern)) → patterns_behind [] patterns ≡ patterns
patterns_behind-nil (Ok patterns) = refl
patterns_behind-nil (Err fault) = refl

pub read_first : (whole rest : List ℕ) (patterns : List Pattern) → patterns ≡ [] → rest ≡ behind_white whole → IsUtf8 rest → IsRead whole patterns 32 rest
read_first whole rest patterns none is utf8 = record {
  same = ap (λ (ps : List Pattern). patterns_behind ps (patterns_from whole Between 32 rest)) none ∙ patterns_behind-nil (patterns_from whole Between 32 rest)
      ∙ ap (patterns_from whole Between 32) is ∙ sym (white-skip whole 32 whole);
  counted = ap (λ (ps : List Pattern). count_of ps + 32) none;
  black = subst (λ (bytes : List ℕ). 0 < length bytes → is_white (get_or bytes 0 0) ≡ false) (sym is) (black_first whole);
  utf8 = utf8;
}

counted_within : (whole : List ℕ) (room : ℕ) (pattern : Pattern) (rest : ℕ → OrFault (List Pattern)) → times_of pattern.times ≤ room
    → counted whole room (Ok pattern) rest ≡ onto pattern (rest (room - times_of pattern.times))
counted_within whole room pattern rest within =
    let is : nat_le (times_of pattern.times) room ≡ true = le-leb (times_of pattern.times) room within in
    ap (λ (test : Bool). cond test (onto pattern (rest (room - times_of pattern.times))) (Err (BadSequence whole))) is

pub read_more : (whole rest behind left : List ℕ) (patterns more : List Pattern) (pattern : Pattern) (room now : ℕ) → IsRead whole patterns room rest → CutsOff whole pattern rest behind
    → times_of pattern.times ≤ room → more ≡ patterns ++ pattern ∷ [] → now ≡ room - times_of pattern.times → left ≡ behind_white behind → IsUtf8 left → IsRead whole more now left
read_more whole rest behind left patterns more pattern room now read cuts within all is rest_is utf8 = record {
  same =
      ap (λ (ps : List Pattern). patterns_behind ps (patterns_from whole Between now left)) all
      ∙ patterns_behind-onto patterns pattern (patterns_from whole Between now left)
      ∙ ap (λ n. patterns_behind patterns (onto pattern (patterns_from whole Between n left))) is
      ∙ ap (λ (ps : OrFault (List Pattern)). patterns_behind patterns (onto pattern ps)) (ap (patterns_from whole Between (room - times_of pattern.times)) rest_is ∙ sym (white-skip whole (room - times_of pattern.times) behind))
      ∙ ap (patterns_behind patterns) (sym (cuts room ∙ counted_within whole room pattern (λ left. patterns_from whole Between left behind) within))
      ∙ read.same;
  counted =
      let sum = ap count_of all ∙ sum_by_push (λ (p : Pattern). times_of p.times) patterns pattern in
      omega (arith, read.counted);
  black = subst (λ (bytes : List ℕ). 0 < length bytes → is_white (get_or bytes 0 0) ≡ false) (sym rest_is) (black_first behind);
  utf8 = utf8;
}
