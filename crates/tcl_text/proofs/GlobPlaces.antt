-- Facts about the places of a text that are tried at once.
use Rattle.std.proofs.Common.{◌≡◌, ℕ, ◌+◌, ◌-◌, ◌*◌, ◌/◌, ◌%◌, ◌^◌, suc, ◌<◌, ◌≤◌, inl, inr, Bool, true, false, ◌&&◌, min, max, eqb, List, [], ◌∷◌, ◌++◌, length, take, drop, replicate, get_or, set, refl, sym, ap, subst, ◌∙◌, arith}
use mir.Val.{bits}
use lib.Bits.{bit_and}
use Rattle.std.specs.Int.{bit_at, w64}
use Rattle.std.specs.Int.RustNames.{bit_or}
use Rattle.std.specs.Str.{chars, IsUtf8, IsAscii, IsCharBoundary}
use Rattle.std.proofs.lemmas.Bool.{true≢false, cases_eq, cases_lt}
use Rattle.std.proofs.lemmas.Bool.Decides.{nat_tests}
use Rattle.std.proofs.lemmas.List.{get_or-set_same, get_or-set_other, get_or-take, get_or-drop, get_or_append_left, get_or-replicate, length-replicate, drop-drop, take-take, take-append-drop, length-take-le, length-drop, drop_at, drop_all}
use Rattle.std.proofs.lemmas.Nat.{and_mask, one_shl, shl-shr}
use Rattle.std.proofs.lemmas.Nat.Bits.{bit_at_and, bit_at_or, bit_at_ones, bit_at-lt, bit_at-suc, bit_at_lowest, bit_at-pow_same, shr_and_one}
use Rattle.std.proofs.lemmas.Str.{chars-append, chars-IsAscii, encodes-chars, length-le-encodes, IsAscii-take, IsUtf8-from_ascii, IsCharBoundary-from_take}
use Rattle.tcl_text.specs.Glob.{GlobMatches}
use Rattle.tcl_text.specs.GlobSteps.{Allows, AllowsAt, AreDead, IsBehindDead, KeepsAllowed, Spans}
use Rattle.tcl_text.proofs.GlobLemmas.{GlobMatches-star, drop_past}
use Rattle.tcl_text.proofs.GlobPieces.{Spans-none}

-- a pass from byte to byte: each bit tells whether the parts up to its own allow what stands up to there
pub record AllowedTo (mask : ℕ → ℕ) (parts at allowed : ℕ) : Type 0 where
  pub told : (place part : ℕ) → part < parts → (place + part) + 1 ≡ at → AllowsAt mask (part + 1) place → bit_at allowed part ≡ 1
  pub none : (place : ℕ) → place + parts ≤ at → AllowsAt mask parts place → ⊥

pub passed_none : (mask : ℕ → ℕ) (parts : ℕ) → 0 < parts → AllowedTo mask parts 0 0
passed_none mask parts some = record { told = λ place part below fits all. absurd (omega arith); none = λ place fits all. absurd (omega arith) }

min_one : (b : ℕ) → b < 2 → min b 1 ≡ b
min_one b small = grind (arith, nat_tests)

low_bit : (n i : ℕ) → i < 64 → bit_at (n % 2 ^ 64) i ≡ bit_at n i
low_bit n i below =
    ap (λ (m : ℕ). bit_at m i) (sym (and_mask n 64)) ∙ bit_at_and n (2 ^ 64 - 1) i ∙ ap (λ (b : ℕ). min (bit_at n i) b) (bit_at_ones 64 i below) ∙ min_one (bit_at n i) (bit_at-lt n i)

moved_bit : (a j : ℕ) → j + 1 < 64 → bit_at (a * 2 ^ 1 % 2 ^ bits w64) (j + 1) ≡ bit_at a j
moved_bit a j below =
    let same : j + 1 ≡ suc j = omega arith in
    low_bit (a * 2 ^ 1) (j + 1) below ∙ ap (λ (i : ℕ). bit_at (a * 2 ^ 1) i) same ∙ bit_at-suc (a * 2 ^ 1) j ∙ ap (λ (n : ℕ). bit_at n j) (shl-shr a 1)

or_left : (a b : ℕ) → a ≡ 1 → b < 2 → max a b ≡ 1
or_left a b is small = grind (arith, nat_tests)

or_right : (a b : ℕ) → a < 2 → b ≡ 1 → max a b ≡ 1
or_right a b small is = grind (arith, nat_tests)

passed_bit : (mask : ℕ → ℕ) (parts at allowed : ℕ) → parts ≤ 64 → AllowedTo mask parts at allowed
    → (place part : ℕ) → part < parts → (place + part) + 1 ≡ at + 1 → AllowsAt mask (part + 1) place
    → bit_at (bit_and (bit_or (allowed * 2 ^ 1 % 2 ^ bits w64) 1) (mask at)) part ≡ 1
passed_bit mask parts at allowed few to place part below fits all =
    let shifted = allowed * 2 ^ 1 % 2 ^ bits w64 in
    let last : at ≡ place + part = omega arith in
    let here : bit_at (mask at) part ≡ 1 = ap (λ (n : ℕ). bit_at (mask n) part) last ∙ all part (omega arith) in
    let before : max (bit_at shifted part) (bit_at 1 part) ≡ 1 = elim (cases_eq part 0) [
      | inl first ↦ or_right (bit_at shifted part) (bit_at 1 part) (bit_at-lt shifted part) (ap (λ (i : ℕ). bit_at 1 i) first)
      | inr later ↦
          let j = part - 1 in
          let up : part ≡ j + 1 = omega arith in
          let was : bit_at allowed j ≡ 1 = to.told place j (omega arith) (omega arith) (λ more within. all more (omega arith)) in
          or_left (bit_at shifted part) (bit_at 1 part) (ap (λ (i : ℕ). bit_at shifted i) up ∙ moved_bit allowed j (omega arith) ∙ was) (bit_at-lt 1 part)
    ] in
    bit_at_and (bit_or shifted 1) (mask at) part ∙ ap (λ (n : ℕ). min n (bit_at (mask at) part)) (bit_at_or shifted 1 part ∙ before) ∙ ap (λ (n : ℕ). min 1 n) here

pub passed_more : (mask : ℕ → ℕ) (parts at allowed : ℕ) → 0 < parts → parts ≤ 64 → AllowedTo mask parts at allowed
    → (bit_and (bit_and (bit_or (allowed * 2 ^ 1 % 2 ^ bits w64) 1) (mask at) / 2 ^ (parts - 1)) 1 ≡ 1 → ⊥)
    → AllowedTo mask parts (at + 1) (bit_and (bit_or (allowed * 2 ^ 1 % 2 ^ bits w64) 1) (mask at))
passed_more mask parts at allowed some few to unset =
    let now = bit_and (bit_or (allowed * 2 ^ 1 % 2 ^ bits w64) 1) (mask at) in
    record {
      told = λ place part below fits all. passed_bit mask parts at allowed few to place part below fits all;
      none = λ place fits all. elim (cases_lt at (place + parts)) [
        | inr earlier ↦ to.none place earlier all
        | inl last ↦
            let set_now : bit_at now (parts - 1) ≡ 1 = passed_bit mask parts at allowed few to place (parts - 1) (omega arith) (omega arith) (λ more within. all more (omega arith)) in
            unset (shr_and_one now (parts - 1) ∙ set_now)
      ];
    }

-- a pass from the last letter to the first: each bit tells whether the parts from its own on allow what stands from there on
pub record AllowedFrom (mask : ℕ → ℕ) (size parts at allowed : ℕ) : Type 0 where
  pub told : (part : ℕ) → part < parts → at + parts ≤ size + part → ((more : ℕ) → part + more < parts → bit_at (mask (at + more)) (part + more) ≡ 1) → bit_at allowed part ≡ 1

pub allowed_none : (mask : ℕ → ℕ) (size parts at : ℕ) → size ≤ at → AllowedFrom mask size parts at 0
allowed_none mask size parts at whole = record { told = λ part below fits all. absurd (omega arith) }

last_bit : (parts part : ℕ) → parts ≤ 64 → part + 1 ≡ parts → bit_at (1 * 2 ^ (parts - 1) % 2 ^ bits w64) part ≡ 1
last_bit parts part few is =
    let same : parts - 1 ≡ part = omega arith in
    ap (λ (n : ℕ). bit_at (1 * 2 ^ n % 2 ^ bits w64) part) same ∙ ap (λ (n : ℕ). bit_at n part) (one_shl part 64 (omega arith)) ∙ bit_at-pow_same part

pub allowed_more : (mask : ℕ → ℕ) (size parts at allowed m : ℕ) → 0 < at → parts ≤ 64 → m ≡ mask (at - 1) → AllowedFrom mask size parts at allowed
    → AllowedFrom mask size parts (at - 1) (bit_and (bit_or (allowed / 2 ^ 1) (1 * 2 ^ (parts - 1) % 2 ^ bits w64)) m)
allowed_more mask size parts at allowed m some few read from =
    let last = 1 * 2 ^ (parts - 1) % 2 ^ bits w64 in
    record {
      told = λ part below fits all.
          let here : bit_at m part ≡ 1 =
          ap (λ (n : ℕ). bit_at n part) read ∙ ap (λ (n : ℕ). bit_at (mask n) part) (omega arith) ∙ ap (λ (n : ℕ). bit_at (mask ((at - 1) + 0)) n) (omega arith) ∙ all 0 (omega arith)
          in
          let before : bit_at (bit_or (allowed / 2 ^ 1) last) part ≡ 1 =
          bit_at_or (allowed / 2 ^ 1) last part ∙ elim (cases_eq (part + 1) parts) [
            | inl is ↦ or_right (bit_at (allowed / 2 ^ 1) part) (bit_at last part) (bit_at-lt (allowed / 2 ^ 1) part) (last_bit parts part few is)
            | inr other ↦
                let next : bit_at allowed (part + 1) ≡ 1 = from.told (part + 1) (omega arith) (omega arith) (λ more within.
                let moved : at + more ≡ (at - 1) + (more + 1) = omega arith in
                let bit : (part + 1) + more ≡ part + (more + 1) = omega arith in
                ap (λ (n : ℕ). bit_at (mask n) ((part + 1) + more)) moved ∙ ap (λ (n : ℕ). bit_at (mask ((at - 1) + (more + 1))) n) bit ∙ all (more + 1) (omega arith))
                in
                or_left (bit_at (allowed / 2 ^ 1) part) (bit_at last part) (sym (bit_at-suc allowed part) ∙ ap (λ (n : ℕ). bit_at allowed n) (omega arith) ∙ next) (bit_at-lt last part)
          ]
          in
          bit_at_and (bit_or (allowed / 2 ^ 1) last) m part ∙ ap (λ (n : ℕ). min n (bit_at m part)) before ∙ ap (λ (n : ℕ). min 1 n) here;
    }

-- the places that the pass has come to, from the last on
pub record KeptFrom (mask : ℕ → ℕ) (parts : ℕ) (before now : List Bool) (at : ℕ) : Type 0 where
  pub seen : (place : ℕ) → at ≤ place → place < length before → AllowsAt mask parts place → get_or now place false ≡ get_or before place false
  pub unseen : (place : ℕ) → place < at → get_or now place false ≡ get_or before place false

pub kept_none : (mask : ℕ → ℕ) (parts : ℕ) (before : List Bool) (at : ℕ) → KeptFrom mask parts before before at
kept_none mask parts before at = record { seen = λ place from within all. refl; unseen = λ place below. refl }

pub kept_past : (mask : ℕ → ℕ) (parts : ℕ) (before now : List Bool) (at : ℕ) → length before ≤ at - 1 → KeptFrom mask parts before now at → KeptFrom mask parts before now (at - 1)
kept_past mask parts before now at past kept = record {
  seen = λ place from within all. absurd (omega arith);
  unseen = λ place below. kept.unseen place (omega arith);
}

unary : (n : ℕ) → n ≡ 0 + n
unary n = omega arith

lives_on : (b t : Bool) → t ≡ true → (b && t) ≡ b
lives_on true t is = is
lives_on false t is = refl

is_odd : (n : ℕ) → bit_at n 0 ≡ 1 → eqb (n % 2) 1 ≡ true
is_odd n is = ap (λ (m : ℕ). eqb m 1) (sym (bit_at_lowest n) ∙ is)

pub kept_more : (mask : ℕ → ℕ) (size parts : ℕ) (before now : List Bool) (at allowed : ℕ) → 0 < at → at - 1 < length now → length now ≡ length before → size ≡ length before + parts → 0 < parts
    → AllowedFrom mask size parts (at - 1) allowed → KeptFrom mask parts before now at
    → KeptFrom mask parts before (set now (at - 1) (get_or now (at - 1) false && eqb (allowed % 2) 1)) (at - 1)
kept_more mask size parts before now at allowed some within same long any from kept =
    let i = at - 1 in
    let v = get_or now i false && eqb (allowed % 2) 1 in
    record {
      seen = λ place above inside all. elim (cases_eq place i) [
        | inl here ↦
            let odd : bit_at allowed 0 ≡ 1 = from.told 0 any (omega arith) (λ more below.
            ap (λ (n : ℕ). bit_at (mask (i + more)) n) (sym (unary more)) ∙ ap (λ (n : ℕ). bit_at (mask (n + more)) more) (sym here) ∙ all more (omega arith))
            in
            ap (λ (p : ℕ). get_or (set now i v) p false) here ∙ get_or-set_same now i v false within ∙ lives_on (get_or now i false) (eqb (allowed % 2) 1) (is_odd allowed odd)
            ∙ kept.unseen i (omega arith) ∙ ap (λ (p : ℕ). get_or before p false) (sym here)
        | inr other ↦ get_or-set_other now i place v false other ∙ kept.seen place (omega arith) inside all
      ];
      unseen = λ place below. get_or-set_other now i place v false (λ e. omega arith) ∙ kept.unseen place (omega arith);
    }

pub kept_all : (mask : ℕ → ℕ) (parts : ℕ) (before now : List Bool) (at : ℕ) → at ≡ 0 → KeptFrom mask parts before now at → KeepsAllowed mask parts before now
kept_all mask parts before now at first kept = λ place within all. kept.seen place (omega arith) within all

-- places at which the pattern has been walked so far
pub dead_none : (pattern window : List ℕ) (alive : List Bool) → ((place : ℕ) → place < length alive → get_or alive place false ≡ true) → AreDead pattern window alive
dead_none pattern window alive all = record { none = λ place within dead behind m. true≢false (sym (all place within) ∙ dead) }

-- the masks of bytes
abbrev pub OfBytes : List ℕ → List ℕ → ℕ → ℕ
OfBytes masks bytes at = get_or masks (get_or bytes at 0) 0

abbrev pub AllowsBytes : List ℕ → List ℕ → ℕ → Type 0
AllowsBytes pattern masks count = Allows pattern (λ letter. letter < 256) (λ letter. letter) (λ letter. get_or masks letter 0) count

bytes_allowed : (pattern rest window masks : List ℕ) (at count place : ℕ) → Spans pattern rest at → AllowsBytes rest masks count → at + (place + count) ≤ length window → ((i : ℕ) → get_or window i 0 < 256) → (behind : List ℕ) → GlobMatches pattern (drop place (window ++ behind))
    → (part : ℕ) → part < count → bit_at (get_or masks (get_or window (at + (place + part)) 0) 0) part ≡ 1
bytes_allowed pattern rest window masks at count place spans allows fits small behind m part below =
    let text = window ++ behind in
    let there = (spans.forth (drop place text) m).1 in
    let moved : (place + at) + part ≡ at + (place + part) = omega arith in
    let inside : get_or (drop at (drop place text)) part 0 ≡ get_or window (at + (place + part)) 0 =
    ap (λ (t : List ℕ). get_or t part 0) (drop-drop at place text) ∙ get_or-drop (place + at) text part 0 ∙ ap (λ (n : ℕ). get_or text n 0) moved
    ∙ get_or_append_left window behind 0 (at + (place + part)) (omega arith)
    in
    allows.told (drop at (drop place text)) there part below (get_or window (at + (place + part)) 0) (small (at + (place + part))) (sym inside)

pub dead_more : (pattern rest window masks bytes : List ℕ) (before after : List Bool) (at count : ℕ) → AreDead pattern window before → Spans pattern rest at → AllowsBytes rest masks count → KeepsAllowed (OfBytes masks bytes) count before after → length after ≡ length before → at + (length before + count) ≤ length window → ((i : ℕ) → get_or window i 0 < 256) → ((i : ℕ) → i < length before + count → get_or bytes i 0 ≡ get_or window (at + i) 0) → AreDead pattern window after
dead_more pattern rest window masks bytes before after at count dead spans allows keeps long fits small read = record {
  none = λ place within is_dead behind m.
      let bits : AllowsAt (OfBytes masks bytes) count place = λ part below.
      ap (λ (c : ℕ). bit_at (get_or masks c 0) part) (read (place + part) (omega arith))
      ∙ bytes_allowed pattern rest window masks at count place spans allows (omega arith) small behind m part below
      in
      dead.none place (omega arith) (sym (keeps place (omega arith) bits) ∙ is_dead) behind m;
}

pub dead_by_bits : (pattern window masks : List ℕ) (count place : ℕ) → AllowsBytes pattern masks count → place + count ≤ length window → ((i : ℕ) → get_or window i 0 < 256) → (AllowsAt (OfBytes masks window) count place → ⊥) → (behind : List ℕ) → GlobMatches pattern (drop place (window ++ behind)) → ⊥
dead_by_bits pattern window masks count place allows fits small none behind m = none (λ part below.
    ap (λ (n : ℕ). bit_at (get_or masks (get_or window n 0) 0) part) (unary (place + part))
    ∙ bytes_allowed pattern pattern window masks 0 count place (Spans-none pattern) allows (omega arith) small behind m part below)

pub dead_at_first : (pattern window : List ℕ) (most places : ℕ) → places ≤ most → AreDead pattern window (take places (replicate most true))
dead_at_first pattern window most places few = dead_none pattern window (take places (replicate most true)) (λ place within.
    let below : place < places = omega (arith, length-take-le places (replicate most true), length-replicate most true) in
    get_or-take places (replicate most true) place false below ∙ get_or-replicate most place true false (omega arith))

-- what stands behind places without a match
pub behind_none : (pattern text : List ℕ) → IsBehindDead pattern text text
behind_none pattern text = record { passed = 0; at = refl; none = λ place below m. omega arith }

pub behind_more : (pattern text left next : List ℕ) (c : ℕ) → IsBehindDead pattern text left → (GlobMatches pattern left → ⊥) → left ≡ c ∷ next → IsBehindDead pattern text next
behind_more pattern text left next c before here is = record {
  passed = before.passed + 1;
  at = drop_past text next before.passed c (sym before.at ∙ is);
  none = λ place below m. elim (cases_lt place before.passed) [
    | inl earlier ↦ before.none place earlier m
    | inr last ↦
        let same : place ≡ before.passed = omega arith in
        here (subst (λ (t : List ℕ). GlobMatches pattern t) (ap (λ (n : ℕ). drop n text) same ∙ sym before.at) m)
  ];
}

pub behind_both : (pattern text middle left : List ℕ) → IsBehindDead pattern text middle → IsBehindDead pattern middle left → IsBehindDead pattern text left
behind_both pattern text middle left one two = record {
  passed = one.passed + two.passed;
  at = two.at ∙ ap (drop two.passed) one.at ∙ drop-drop two.passed one.passed text;
  none = λ place below m. elim (cases_lt place one.passed) [
    | inl earlier ↦ one.none place earlier m
    | inr later ↦
        let far : one.passed + (place - one.passed) ≡ place = omega arith in
        let there : drop place text ≡ drop (place - one.passed) middle =
        ap (λ (n : ℕ). drop n text) (sym far) ∙ sym (drop-drop (place - one.passed) one.passed text) ∙ ap (drop (place - one.passed)) (sym one.at)
        in
        two.none (place - one.passed) (omega arith) (subst (λ (t : List ℕ). GlobMatches pattern t) there m)
  ];
}

pub behind_cut : (pattern text rest next : List ℕ) (dead : ℕ) → IsBehindDead pattern text (chars rest) → IsBehindDead pattern (chars rest) (chars (drop dead rest)) → next ≡ drop dead rest → IsBehindDead pattern text (chars next)
behind_cut pattern text rest next dead before here is =
    subst (λ (t : List ℕ). IsBehindDead pattern text (chars t)) (sym is) (behind_both pattern text (chars rest) (chars (drop dead rest)) before here)

-- a text whose front is ASCII, by that front
pub ascii_cut : (text window : List ℕ) (count : ℕ) → IsUtf8 text → window ≡ take count text → IsAscii window → chars text ≡ window ++ chars (drop count text)
ascii_cut text window count utf8 is ascii =
    let whole : text ≡ window ++ drop count text = sym (take-append-drop count text) ∙ ap (λ (t : List ℕ). t ++ drop count text) (sym is) in
    ap chars whole ∙ chars-append window (drop count text) (IsUtf8-from_ascii window ascii) ∙ ap (λ (t : List ℕ). t ++ chars (drop count text)) (chars-IsAscii window ascii)

ascii_front : (text window : List ℕ) (count dead : ℕ) → window ≡ take count text → IsAscii window → dead ≤ count → IsAscii (take dead text)
ascii_front text window count dead is ascii within =
    subst IsAscii (ap (take dead) is ∙ take-take dead count text within) (IsAscii-take window dead ascii)

pub dead_boundary : (text window : List ℕ) (count dead : ℕ) → IsUtf8 text → window ≡ take count text → IsAscii window → dead ≤ count → count ≤ length text → IsCharBoundary text dead
dead_boundary text window count dead utf8 is ascii within fits =
    IsCharBoundary-from_take text dead utf8 (omega arith) (IsUtf8-from_ascii (take dead text) (ascii_front text window count dead is ascii within))

pub behind_window : (pattern text window left : List ℕ) (count dead : ℕ) → IsUtf8 text → window ≡ take count text → IsAscii window → dead ≤ count → count ≤ length text → left ≡ drop dead text → ((place : ℕ) → place < dead → (behind : List ℕ) → GlobMatches pattern (drop place (window ++ behind)) → ⊥) → IsBehindDead pattern (chars text) (chars left)
behind_window pattern text window left count dead utf8 is ascii within fits left_is none =
    let front = ascii_front text window count dead is ascii within in
    let cut : chars text ≡ take dead text ++ chars (drop dead text) = ascii_cut text (take dead text) dead utf8 refl front in
    let long : length (take dead text) ≡ dead = length-take-le dead text (omega arith) in
    record {
      passed = dead;
      at = ap chars left_is ∙ sym (ap (drop dead) cut ∙ drop_at (take dead text) (chars (drop dead text)) dead long);
      none = λ place below m. none place below (chars (drop count text)) (subst (λ (t : List ℕ). GlobMatches pattern (drop place t)) (ascii_cut text window count utf8 is ascii) m);
    }

-- a pattern that needs more characters than are left matches at none of the places that are left
pub star_short : (pattern text bytes : List ℕ) (parts : ℕ) → IsUtf8 bytes → IsBehindDead pattern text (chars bytes) → length bytes < parts → ((any : List ℕ) → GlobMatches pattern any → parts ≤ length any) → GlobMatches (42 ∷ pattern) text → ⊥
star_short pattern text bytes parts utf8 behind short long m =
    let later = GlobMatches-star m pattern refl in
    let few : length (chars bytes) ≤ length bytes = omega (arith, length-le-encodes (chars bytes), ap length (encodes-chars bytes utf8)) in
    let left : length (chars bytes) ≡ length (drop behind.passed text) = ap length behind.at in
    let needs : parts ≤ length (drop later.skipped text) = long (drop later.skipped text) later.matches in
    elim (cases_lt later.skipped behind.passed) [
      | inl before ↦ behind.none later.skipped before later.matches
      | inr from ↦ omega (arith, length-drop later.skipped text, length-drop behind.passed text)
    ]

-- nowhere in a text that is shorter than the pattern's parts
pub behind_short : (pattern text : List ℕ) (parts : ℕ) → length text < parts → ((any : List ℕ) → GlobMatches pattern any → parts ≤ length any) → IsBehindDead pattern text []
behind_short pattern text parts short long = record {
  passed = length text;
  at = sym (drop_all (length text) text (omega arith));
  none = λ place below m. let needs = long (drop place text) m in omega (arith, needs, length-drop place text);
}
