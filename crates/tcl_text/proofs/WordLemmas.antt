-- A list of plain words has an item just where the item stands as one of them.
use Rattle.std.proofs.Common.{◌≡◌, ℕ, zero, suc, ◌+◌, ◌-◌, ◌<◌, ◌≤◌, Bool, true, false, ◌||◌, ◌&&◌, nat_lt, List, [], ◌∷◌, take, drop, length, get_or, IsUtf8, bytes_eq, refl, arith, add-one, ap, sym, subst, ◌∙◌, inl, inr, ◌⊎◌, Option, Some, None, Decides, nat_eq}
use Rattle.std.specs.List.{list_any}
use Rattle.std.specs.Str.{IsCharBoundary}
use Rattle.std.proofs.lemmas.Bool.{cases_lt, lt-ltb, ltb-true, eqb-true, both_ways, true≢false, false_from_ne_true, and_parts, and_from, or_cases, or_from, or_left, or_right}
use Rattle.std.proofs.lemmas.Bool.Decides.{same_from_decides}
use Rattle.std.proofs.lemmas.List.{drop-drop, get_or-drop, get_or-take, length-drop, length-take, length-take-le, ext_get_or}
use Rattle.std.proofs.lemmas.List.Folds.{list_any_at}
use Rattle.std.proofs.lemmas.Slice.Eq.{bytes_eq-Decides}
use Rattle.std.proofs.lemmas.Str.{IsCharBoundary-start}
use Rattle.std.specs.Option.{unwrap_or}
use Rattle.memchr.specs.Find.{OccursAt, IsFirstByte, is_byte3}
use Rattle.tcl_text.specs.Backslash.{is_white, kind_of}
use Rattle.tcl_text.specs.Readings.{list_of}
use Rattle.tcl_text.specs.Searching.{has_item}
use Rattle.tcl_text.specs.SearchSteps.{HasWord, IsWordAt, PassesFront, or_found}
use Rattle.tcl_text.proofs.SearchLemmas.{ArePlain, PassesTo, PassesTo-start, PassesTo-plain, PassesTo-white, equals_word, is_plain, plain_black}
use Rattle.tcl_text.proofs.SplittingLemmas.{told}
use Rattle.tcl_text.specs.declared.splitting.ByteKind.{ByteKind}
use Rattle.tcl_text.specs.declared.splitting.ByteKind.TheVariants.{White, OpenBrace, CloseBrace, Quote, Backslash, Other}

-- the bytes of an item stand in a text from a place on
abbrev pub Reads : List ℕ → List ℕ → ℕ → Type 0
Reads text item at = (j : ℕ) → j < length item → get_or text (at + j) 0 ≡ get_or item j 0

-- an item that stands as a word in the front of a text, in the words of the whole text
record Stands (text item : List ℕ) (end at : ℕ) : Type 0 where
  inside : at + length item < end
  reads : Reads text item at
  behind : is_white (get_or text (at + length item) 0) ≡ true
  before : 0 < at → is_white (get_or text (at - 1) 0) ≡ true

stands_in : (text item : List ℕ) (end at : ℕ) → end ≤ length text → IsWordAt (take end text) item at → Stands text item end at
stands_in text item end at fits word =
    let inside : at + length item < end = omega (arith, word.inside, length-take-le end text fits) in
    record {
      inside = inside;
      reads = λ j below. sym (get_or-take end text (at + j) 0 (omega arith)) ∙ word.occurs.reads j below;
      behind = ap is_white (sym (get_or-take end text (at + length item) 0 inside)) ∙ word.behind;
      before = λ some. ap is_white (sym (get_or-take end text (at - 1) 0 (omega arith))) ∙ word.before some;
    }

word_in : (text item : List ℕ) (end at : ℕ) → end ≤ length text → Stands text item end at → IsWordAt (take end text) item at
word_in text item end at fits stands =
    let inside : at + length item < end = stands.inside in
    let long : length (take end text) ≡ end = length-take-le end text fits in
    record {
      occurs = record { fits = omega arith; reads = λ j below. get_or-take end text (at + j) 0 (omega arith) ∙ stands.reads j below };
      inside = omega arith;
      behind = ap is_white (get_or-take end text (at + length item) 0 inside) ∙ stands.behind;
      before = λ some. ap is_white (get_or-take end text (at - 1) 0 (omega arith)) ∙ stands.before some;
    }

-- a byte of an item without white space isn't white
black_at : (item : List ℕ) (j : ℕ) → list_any is_white item ≡ false → j < length item → is_white (get_or item j 0) ≡ false
black_at item j black below = false_from_ne_true (is_white (get_or item j 0)) (λ white. both_ways (list_any is_white item) black (list_any_at is_white item j 0 below white))

none_white : (item : List ℕ) → ((j : ℕ) → j < length item → is_white (get_or item j 0) ≡ false) → list_any is_white item ≡ false
none_white [] black = refl
none_white (c ∷ cs) black = or_from (is_white c) (list_any is_white cs) (black 0 (omega arith)) (none_white cs (λ j below. black (suc j) (omega (arith, below))))

-- ── a word of a text, and an item ──

word_reads : (text item : List ℕ) (start at : ℕ) → start ≤ at → at ≤ length text → take (at - start) (drop start text) ≡ item → (start + length item ≡ at) × Reads text item start
word_reads text item start at ordered fits same =
    let word = take (at - start) (drop start text) in
    let long : length word ≡ at - start = omega (arith, length-take (at - start) (drop start text), length-drop start text) in (
      omega (arith, ap length same, long),
      λ j below.
          let within : j < at - start = omega (arith, ap length same, long) in
          sym (get_or-drop start text j 0) ∙ sym (get_or-take (at - start) (drop start text) j 0 within) ∙ ap (λ (xs : List ℕ). get_or xs j 0) same,
    )

word_from_reads : (text item : List ℕ) (start at : ℕ) → at ≤ length text → start + length item ≡ at → Reads text item start → take (at - start) (drop start text) ≡ item
word_from_reads text item start at fits is reads =
    let word = take (at - start) (drop start text) in
    let long : length word ≡ length item = omega (arith, length-take (at - start) (drop start text), length-drop start text) in
    ext_get_or 0 word item long (λ j below. get_or-take (at - start) (drop start text) j 0 (omega arith) ∙ get_or-drop start text j 0 ∙ reads j (omega arith))

-- ── the words up to a place ──

-- plain bytes and white ones up to a place of a text
abbrev pub AreWords : List ℕ → ℕ → Type 0
AreWords text end = (k : ℕ) → k < end → (is_plain (kind_of (get_or text k 0)) ≡ true) ⊎ (is_white (get_or text k 0) ≡ true)

-- how far the words were compared with an item: which word is begun, and whether one before it is the item
record WordsTo (item text : List ℕ) (end at : ℕ) : Type 0 where
  start : ℕ
  found : Bool
  passes : PassesTo item text start at found
  before : 0 < start → is_white (get_or text (start - 1) 0) ≡ true
  sound : found ≡ true → HasWord (take end text) item
  complete : (h : HasWord (take end text) item) → h.at + length item < at → found ≡ true

words_none : (item text : List ℕ) (end : ℕ) → WordsTo item text end 0
words_none item text end = record {
  start = 0;
  found = false;
  passes = PassesTo-start item text;
  before = λ some. absurd (omega arith);
  sound = λ e. absurd (true≢false (sym e));
  complete = λ h below. absurd (omega (arith, below));
}

words_plain : (item text : List ℕ) (end at : ℕ) → end ≤ length text → WordsTo item text end at → is_plain (kind_of (get_or text at 0)) ≡ true → WordsTo item text end (at + 1)
words_plain item text end at fits words plain = record {
  start = words.start;
  found = words.found;
  passes = PassesTo-plain item text words.start at words.found words.passes plain;
  before = words.before;
  sound = words.sound;
  complete = λ h below. elim (cases_lt (h.at + length item) at) [
    | inl earlier ↦ words.complete h earlier
    | inr here ↦
        let is : h.at + length item ≡ at = omega (arith, below, here) in
        let stands = stands_in text item end h.at fits h.stands in
        absurd (both_ways (is_white (get_or text at 0)) (plain_black (get_or text at 0) plain) (subst (λ (k : ℕ). is_white (get_or text k 0) ≡ true) is stands.behind))
  ];
}

-- the item stands just where the word begins that ends here
begins_there : (item text : List ℕ) (end start at place : ℕ) → ArePlain text start at → (0 < start → is_white (get_or text (start - 1) 0) ≡ true) → start ≤ at → list_any is_white item ≡ false → Stands text item end place → 0 < length item → place + length item ≡ at → place ≡ start
begins_there item text end start at place plain before ordered black stands some is = elim (cases_lt place start) [
  | inl earlier ↦
      let j = start - 1 - place in
      let there : place + j ≡ start - 1 = omega arith in
      let within : j < length item = omega arith in
      let white : is_white (get_or item j 0) ≡ true = ap is_white (sym (stands.reads j within)) ∙ ap (λ (k : ℕ). is_white (get_or text k 0)) there ∙ before (omega arith) in
      absurd (both_ways (is_white (get_or item j 0)) (black_at item j black within) white)
  | inr from ↦ elim (cases_lt start place) [
    | inl later ↦
        absurd (both_ways (is_white (get_or text (place - 1) 0)) (plain_black (get_or text (place - 1) 0) (plain (place - 1) (omega arith) (omega arith))) (stands.before (omega arith)))
    | inr same ↦ omega (arith, from, same)
  ]
]

words_white : (item text : List ℕ) (end at : ℕ) → end ≤ length text → at < end → WordsTo item text end at → is_white (get_or text at 0) ≡ true → WordsTo item text end (at + 1)
words_white item text end at fits inside words white =
    let start = words.start in
    let ordered : start ≤ at = words.passes.within in
    let word = take (at - start) (drop start text) in
    let same = equals_word word item in
    let long : length word ≡ at - start = omega (arith, length-take (at - start) (drop start text), length-drop start text) in
    let last : (at + 1) - 1 ≡ at = omega arith in
    record {
      start = at + 1;
      found = words.found || same;
      passes = PassesTo-white item text start at words.found same words.passes (omega arith) white refl;
      before = λ some. subst (λ (k : ℕ). is_white (get_or text k 0) ≡ true) (sym last) white;
      sound = λ e. elim (or_cases words.found same e) [
        | inl was ↦ words.sound was
        | inr now ↦
            let both = and_parts (nat_lt 0 (length word)) (bytes_eq word item) now in
            let read = word_reads text item start at ordered (omega arith) ((bytes_eq-Decides word item).0 both.1) in
            let black : list_any is_white item ≡ false = none_white item (λ j below.
            ap is_white (sym (read.1 j below)) ∙ plain_black (get_or text (start + j) 0) (words.passes.plain (start + j) (omega arith) (omega (arith, read.0, below))))
            in
            record {
              some = omega (arith, ltb-true 0 (length word) both.0, read.0, long);
              black = black;
              at = start;
              stands = word_in text item end start fits (record {
                inside = omega (arith, read.0);
                reads = read.1;
                behind = subst (λ (k : ℕ). is_white (get_or text k 0) ≡ true) (sym read.0) white;
                before = words.before;
              });
            }
      ];
      complete = λ h below. elim (cases_lt (h.at + length item) at) [
        | inl earlier ↦ or_left words.found same (words.complete h earlier)
        | inr here ↦
            let is : h.at + length item ≡ at = omega (arith, below, here) in
            let stands = stands_in text item end h.at fits h.stands in
            let some : 0 < length item = h.some in
            let begins : h.at ≡ start = begins_there item text end start at h.at words.passes.plain words.before ordered h.black stands some is in
            let reads : Reads text item start = subst (λ (k : ℕ). Reads text item k) begins stands.reads in
            let word_is : word ≡ item = word_from_reads text item start at (omega arith) (omega arith) reads in
            or_right words.found same (and_from (nat_lt 0 (length word)) (bytes_eq word item) (lt-ltb 0 (length word) (omega (arith, long))) ((bytes_eq-Decides word item).1 word_is))
      ];
    }

words_to : (item text : List ℕ) (end : ℕ) → end ≤ length text → AreWords text end → (at : ℕ) → at ≤ end → WordsTo item text end at
words_to item text end fits words zero le = words_none item text end
words_to item text end fits words (suc at) le =
    let inside : at < end = omega (arith, le) in
    let before = words_to item text end fits words at (omega arith) in
    subst (λ (k : ℕ). WordsTo item text end k) (add-one at) (elim (words at inside) [
      | inl plain ↦ words_plain item text end at fits before plain
      | inr white ↦ words_white item text end at fits inside before white
    ])

-- behind white space or at the beginning, all words in front were compared
pub words_passed : (item text : List ℕ) (end : ℕ) (found : Bool) → end ≤ length text → AreWords text end → (0 < end → is_white (get_or text (end - 1) 0) ≡ true) → Decides found (HasWord (take end text) item) → PassesTo item text end end found
words_passed item text end found fits words white decides =
    let all = words_to item text end fits words end (omega arith) in
    let ordered : all.start ≤ end = all.passes.within in
    let whole : all.start ≡ end = elim (cases_lt all.start end) [
      | inl inside ↦
          absurd (both_ways (is_white (get_or text (end - 1) 0)) (plain_black (get_or text (end - 1) 0) (all.passes.plain (end - 1) (omega arith) (omega arith))) (white (omega arith)))
      | inr past ↦ omega (arith, past)
    ] in
    let same : all.found ≡ found =
    same_from_decides all.found found (all.sound, λ h. all.complete h (let stands = stands_in text item end h.at fits h.stands in stands.inside)) decides
    in
    subst (λ (b : Bool). PassesTo item text end end b) same (subst (λ (k : ℕ). PassesTo item text k end all.found) whole all.passes)

-- ── a list up to its first byte that isn't plain ──

-- no brace that opens, quote or backslash stands before the place, and one stands there where it isn't the end
record IsUnmarked (text : List ℕ) (end : ℕ) : Type 0 where
  within : end ≤ length text
  none : (k : ℕ) → k < end → is_byte3 123 34 92 (get_or text k 0) ≡ true → ⊥
  marked : end < length text → is_byte3 123 34 92 (get_or text end 0) ≡ true

unmarked : (text : List ℕ) (place : Option ℕ) → IsFirstByte (is_byte3 123 34 92) text place → IsUnmarked text (unwrap_or place (length text))
unmarked text None nowhere = record {
  within = omega arith;
  none = λ k below mark. nowhere k (omega arith) below mark;
  marked = λ below. absurd (omega (arith, below));
}
unmarked text (Some at) first = record {
  within = omega (arith, first.0.high);
  none = λ k below mark. first.0.before k (omega arith) below mark;
  marked = λ below. first.1;
}

unmarked_word : (b : ℕ) → (is_byte3 123 34 92 b ≡ true → ⊥) → (is_plain (kind_of b) ≡ true) ⊎ (is_white b ≡ true)
unmarked_word b other = at (kind_of b) refl
  where
    is_mark : (mark : ℕ) → is_byte3 123 34 92 mark ≡ true → nat_eq b mark ≡ true → ⊥
    is_mark mark marks same = other (ap (is_byte3 123 34 92) (eqb-true b mark same) ∙ marks)

    at : (k : ByteKind) → kind_of b ≡ k → (is_plain (kind_of b) ≡ true) ⊎ (is_white b ≡ true)
    at White is = inr (told b White is)
    at OpenBrace is = absurd (is_mark 123 refl (told b OpenBrace is))
    at CloseBrace is = inl (ap is_plain is)
    at Quote is = absurd (is_mark 34 refl (told b Quote is))
    at Backslash is = absurd (is_mark 92 refl (told b Backslash is))
    at Other is = inl (ap is_plain is)

marked_black : (b : ℕ) → is_byte3 123 34 92 b ≡ true → is_white b ≡ false
marked_black b mark = elim (or_cases (nat_eq b 123 || nat_eq b 34) (nat_eq b 92) mark) [
  | inl first ↦ elim (or_cases (nat_eq b 123) (nat_eq b 34) first) [ inl brace ↦ ap is_white (eqb-true b 123 brace) | inr quote ↦ ap is_white (eqb-true b 34 quote) ]
  | inr backslash ↦ ap is_white (eqb-true b 92 backslash)
]

pub words_searched : (item text : List ℕ) (place : Option ℕ) (end start : ℕ) (found : Bool) → IsFirstByte (is_byte3 123 34 92) text place → end ≡ unwrap_or place (length text) → start ≤ length (take end text)
    → (0 < start → is_white (get_or (take end text) (start - 1) 0) ≡ true) → ((k : ℕ) → start ≤ k → k < length (take end text) → is_white (get_or (take end text) k 0) ≡ false)
    → Decides found (HasWord (take start text) item) → PassesFront item text start found
words_searched item text place end start found first is fits white black decides =
    let marks : IsUnmarked text end = subst (IsUnmarked text) (sym is) (unmarked text place first) in
    let within : end ≤ length text = marks.within in
    let long : length (take end text) ≡ end = length-take-le end text within in
    let passes = words_passed item text start found (omega arith) (λ k below. unmarked_word (get_or text k 0) (λ mark. marks.none k (omega arith) mark)) (λ some. ap is_white (sym (get_or-take end text (start - 1) 0 (omega arith))) ∙ white some) decides in
    record {
      told = passes.told;
      within = omega arith;
      black = λ inside. elim (cases_lt start end) [
        | inl before ↦ ap is_white (sym (get_or-take end text start 0 before)) ∙ black start (omega arith) (omega arith)
        | inr past ↦ let same : end ≡ start = omega (arith, past) in ap (λ (k : ℕ). is_white (get_or text k 0)) (sym same) ∙ marked_black (get_or text end 0) (marks.marked (omega arith))
      ];
      cut = passes.cut;
    }
