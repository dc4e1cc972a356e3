-- Places at which a word may begin, a bit for each.
use Rattle.std.proofs.Common.{◌≡◌, ◌≢◌, ℕ, ◌+◌, ◌-◌, ◌*◌, ◌^◌, ◌%◌, ◌<◌, ◌≤◌, Bool, true, false, ◌||◌, ◌&&◌, cond, eqb, leb, List, take, drop, length, bytes_eq, get_or, map, replicate, refl, arith, ap, sym, subst, ◌∙◌, inl, inr, suc, min, max, w8, w64, bit_and, bit_or, pow_pos, pow_mono}
use Rattle.std.specs.Int.{bit_at, bit_not}
use Rattle.std.specs.Simd.Lanes.{zip2, mask_l, top, chunk}
use Rattle.std.proofs.lemmas.Bool.{cases_Bool, cases_eq, cases_lt, eq-eqb}
use Rattle.std.proofs.lemmas.Bool.Decides.{nat_tests}
use Rattle.std.proofs.lemmas.List.{get_or-take, get_or-drop, get_or_default, length-map, length-take, length-drop, ext_get_or}
use Rattle.std.proofs.lemmas.Slice.Eq.{bytes_eq-Decides}
use Rattle.std.proofs.lemmas.Nat.{and-not, and_comm}
use Rattle.std.proofs.lemmas.Nat.Bits.{bit_at_and, bit_at_or, bit_at_not, bit_at-lt, bit_at-zero, bit_at_clear_other, and_pow}
use Rattle.std.proofs.lemmas.Simd.{bitmask_splat, bit_mask_l, length-chunk, get_or-chunk}
use Rattle.std.proofs.Math.ListN.{get_or-map}
use Rattle.std.proofs.Math.Nat.{two-pow-succ}
use Rattle.tcl_text.specs.Backslash.{is_white}
use Rattle.tcl_text.specs.SearchSteps.{HasWord, IsWordAt}

-- a bit of what `to_bitmask` gives of the comparison of the first 64 bytes with a byte
pub bit_told : (t : ℕ → ℕ → Bool) (bytes : List ℕ) (x k : ℕ) → 64 ≤ length bytes → k < 64
    → bit_at (mask_l (map (top 7) (zip2 (λ a b. cond (t a b) 255 0) (chunk 0 64 bytes) (replicate 64 x))) % 2 ^ 64) k ≡ cond (t (get_or bytes k 0) x) 1 0
bit_told t bytes x k fits below =
    let v = chunk 0 64 bytes in
    let test = λ (y : ℕ). t y x in
    let long : length v ≡ 64 = length-chunk 0 64 bytes (omega arith) in
    let first : 0 + k ≡ k = omega arith in
    ap (λ (m : ℕ). bit_at m k) (bitmask_splat w8 t v 64 x long (omega arith))
    ∙ bit_mask_l (map test v) k
    ∙ ap (λ (b : Bool). cond {A = ℕ} b 1 0) (get_or_default (map test v) k false (test 0) (omega (arith, length-map v test)) ∙ get_or-map test v k 0 ∙ ap test (get_or-chunk 0 64 bytes k 0 below ∙ ap (λ (i : ℕ). get_or bytes i 0) first))

white_bits : (b : ℕ) (equal low lowest : ℕ) → equal ≡ cond (eqb b 32) 1 0 → low ≡ cond (leb b 13) 1 0 → lowest ≡ cond (leb b 8) 1 0 → max equal (min low (1 - lowest)) ≡ cond (is_white b) 1 0
white_bits b equal low lowest a c d = grind (arith, nat_tests)

pub white_told : (bytes : List ℕ) (equal low lowest k : ℕ) → lowest < 2 ^ 64 → k < 64 → bit_at equal k ≡ cond (eqb (get_or bytes k 0) 32) 1 0 → bit_at low k ≡ cond (leb (get_or bytes k 0) 13) 1 0 → bit_at lowest k ≡ cond (leb (get_or bytes k 0) 8) 1 0
    → bit_at (bit_or equal (bit_and low (bit_not w64 lowest))) k ≡ cond (is_white (get_or bytes k 0)) 1 0
white_told bytes equal low lowest k fits below a c d =
    bit_at_or equal (bit_and low (bit_not w64 lowest)) k
    ∙ ap (max (bit_at equal k)) (bit_at_and low (bit_not w64 lowest) k ∙ ap (min (bit_at low k)) (bit_at_not w64 lowest k fits below))
    ∙ white_bits (get_or bytes k 0) (bit_at equal k) (bit_at low k) (bit_at lowest k) a c d

-- ── likely places ──

-- a bit is set for each of the places at which the item is a word
abbrev pub AreLikely : List ℕ → List ℕ → ℕ → ℕ → Type 0
AreLikely words item from likely = (place : ℕ) → place < 64 → IsWordAt words item (from + place) → bit_at likely place ≡ 1

set_where : (test : Bool) (bit : ℕ) → bit ≡ cond test 1 0 → test ≡ true → bit ≡ 1
set_where test bit is holds = is ∙ ap (λ (b : Bool). cond {A = ℕ} b 1 0) holds

both_set : (a b k : ℕ) → bit_at a k ≡ 1 → bit_at b k ≡ 1 → bit_at (bit_and a b) k ≡ 1
both_set a b k p q = omega (arith, bit_at_and a b k)

pub likely_between : (words item before behind : List ℕ) (from a b : ℕ) → 0 < from → before ≡ drop (from - 1) words → behind ≡ drop (from + length item) words
    → ((k : ℕ) → k < 64 → bit_at a k ≡ cond (is_white (get_or before k 0)) 1 0) → ((k : ℕ) → k < 64 → bit_at b k ≡ cond (is_white (get_or behind k 0)) 1 0) → AreLikely words item from (bit_and a b)
likely_between words item before behind from a b some before_is behind_is a_is b_is = λ place below word.
    let first : from - 1 + place ≡ from + place - 1 = omega arith in
    let last : from + length item + place ≡ from + place + length item = omega arith in
    both_set a b place
    (set_where (is_white (get_or before place 0)) (bit_at a place) (a_is place below)
    (ap is_white (ap (λ (xs : List ℕ). get_or xs place 0) before_is ∙ get_or-drop (from - 1) words place 0 ∙ ap (λ (i : ℕ). get_or words i 0) first) ∙ word.before (omega arith)))
    (set_where (is_white (get_or behind place 0)) (bit_at b place) (b_is place below)
    (ap is_white (ap (λ (xs : List ℕ). get_or xs place 0) behind_is ∙ get_or-drop (from + length item) words place 0 ∙ ap (λ (i : ℕ). get_or words i 0) last) ∙ word.behind))

pub likely_byte : (words item bytes : List ℕ) (from likely at m : ℕ) → AreLikely words item from likely → at < length item → bytes ≡ drop (from + at) words
    → ((k : ℕ) → k < 64 → bit_at m k ≡ cond (eqb (get_or bytes k 0) (get_or item at 0)) 1 0) → AreLikely words item from (bit_and likely m)
likely_byte words item bytes from likely at m are inside bytes_is m_is = λ place below word.
    let there : from + at + place ≡ from + place + at = omega arith in
    let same : get_or bytes place 0 ≡ get_or item at 0 =
    ap (λ (xs : List ℕ). get_or xs place 0) bytes_is ∙ get_or-drop (from + at) words place 0 ∙ ap (λ (i : ℕ). get_or words i 0) there ∙ word.occurs.reads at inside
    in
    both_set likely m place (are place below word) (set_where (eqb (get_or bytes place 0) (get_or item at 0)) (bit_at m place) (m_is place below) (eq-eqb (get_or bytes place 0) (get_or item at 0) same))

pub likely_none : (words item : List ℕ) (from : ℕ) → AreLikely words item from 0 → (place : ℕ) → place < 64 → IsWordAt words item (from + place) → ⊥
likely_none words item from are place below word = omega (arith, are place below word, bit_at-zero place)

-- ── one place after another ──

pub likely_without : (words item : List ℕ) (from left place : ℕ) → place < 64 → AreLikely words item from left → (IsWordAt words item (from + place) → ⊥) → AreLikely words item from (bit_and left (bit_not w64 (1 * 2 ^ place % 2 ^ 64)))
likely_without words item from left place within are none = λ k below word. elim (cases_eq k place) [
  | inl same ↦ absurd (none (subst (λ (i : ℕ). IsWordAt words item (from + i)) same word))
  | inr other ↦ bit_at_clear_other w64 left place within k below other ∙ are k below word
]

pub without_less : (left place : ℕ) → left < 2 ^ 64 → place < 64 → bit_at left place ≡ 1 → bit_and left (bit_not w64 (1 * 2 ^ place % 2 ^ 64)) < left
without_less left place fits within set =
    let small : 2 ^ place < 2 ^ 64 = omega (arith, two-pow-succ place, pow_pos place, pow_mono {i = suc place} {j = 64} (omega arith)) in
    let one : 1 * 2 ^ place % 2 ^ 64 ≡ 2 ^ place = omega arith in
    let parts = and-not 64 (2 ^ place) left small fits in
    let there : bit_and (2 ^ place) left ≡ 1 * 2 ^ place = and_comm _ _ ∙ and_pow left place ∙ ap (λ (x : ℕ). x * 2 ^ place) set in
    subst (λ (x : ℕ). bit_and left (2 ^ 64 - 1 - x) < left) (sym one) (omega (arith, and_comm left (2 ^ 64 - 1 - 2 ^ place), pow_pos place))

-- ── all places up to one ──

abbrev pub NoneBefore : List ℕ → List ℕ → ℕ → Type 0
NoneBefore words item from = (at : ℕ) → at < from → IsWordAt words item at → ⊥

pub none_more : (words item : List ℕ) (from : ℕ) → NoneBefore words item from → ((place : ℕ) → place < 64 → IsWordAt words item (from + place) → ⊥) → NoneBefore words item (from + 64)
none_more words item from before near = λ at below word. elim (cases_lt at from) [
  | inl earlier ↦ before at earlier word
  | inr later ↦ let there : from + (at - from) ≡ at = omega arith in near (at - from) (omega arith) (subst (λ (i : ℕ). IsWordAt words item i) (sym there) word)
]

pub is_there : (words item : List ℕ) (at n : ℕ) (same : Bool) → at + length item < length words → n ≡ length item → same ≡ bytes_eq (take n (drop at words)) item → is_white (get_or words (at + length item) 0) ≡ true → (0 < at → is_white (get_or words (at - 1) 0) ≡ true)
    → (same ≡ true → IsWordAt words item at) × (IsWordAt words item at → same ≡ true)
is_there words item at n same inside count is behind before =
    let word = take n (drop at words) in
    let long : length word ≡ length item = omega (arith, length-take n (drop at words), length-drop at words) in
    let read = λ (j : ℕ) (below : j < n). get_or-take n (drop at words) j 0 below ∙ get_or-drop at words j 0 in (
      λ e.
          let equal : word ≡ item = (bytes_eq-Decides word item).0 (sym is ∙ e) in
          record {
            occurs = record { fits = omega arith; reads = λ j below. sym (read j (omega arith)) ∙ ap (λ (xs : List ℕ). get_or xs j 0) equal };
            inside = inside;
            behind = behind;
            before = before;
          },
      λ there. is ∙ (bytes_eq-Decides word item).1 (ext_get_or 0 word item long (λ j below. read j (omega arith) ∙ there.occurs.reads j (omega arith))),
    )

pub none_at : (words item : List ℕ) (from : ℕ) → NoneBefore words item from → ((at : ℕ) → from ≤ at → IsWordAt words item at → ⊥) → HasWord words item → ⊥
none_at words item from before behind has = elim (cases_lt has.at from) [
  | inl earlier ↦ before has.at earlier has.stands
  | inr later ↦ behind has.at later has.stands
]
