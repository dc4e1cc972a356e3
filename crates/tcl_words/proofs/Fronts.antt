-- What stands in front of a text, byte by byte.
use Rattle.std.proofs.Common.{◌≡◌, ◌≢◌, ℕ, suc, ◌+◌, ◌<◌, List, ◌∷◌, length, drop, slice_index, refl, ap, ◌∙◌, arith, Option, Some, None, true, false, cond, nat_eq}
use Rattle.std.proofs.Math.Seq.{drop-cons}
use Rattle.std.proofs.lemmas.Bool.Decides.{nat_tests}
use Rattle.tcl_words.specs.Kinds.{name_bytes, to_brace, one_further}
use Rattle.tcl_words.specs.Classes.{is_name_byte}

next : (text : List ℕ) (at : ℕ) → at < length text → drop at text ≡ slice_index text at ∷ drop (at + 1) text
next text at within = let e : suc at ≡ at + 1 = omega arith in drop-cons text at 0 within ∙ ap (λ n. slice_index text at ∷ drop n text) e

pub letter_next : (text : List ℕ) (at : ℕ) → at < length text → is_name_byte (slice_index text at) ≡ true → name_bytes (drop at text) ≡ suc (name_bytes (drop (at + 1) text))
letter_next text at within e = ap name_bytes (next text at within) ∙ ap (λ b. cond b (suc (name_bytes (drop (at + 1) text))) 0) e

pub letter_last : (text : List ℕ) (at : ℕ) → at < length text → is_name_byte (slice_index text at) ≡ false → name_bytes (drop at text) ≡ 0
letter_last text at within e = ap name_bytes (next text at within) ∙ ap (λ b. cond b (suc (name_bytes (drop (at + 1) text))) 0) e

-- what is found past so many bytes
abbrev pub found_past : ℕ → Option ℕ → Option ℕ
found_past at None = None
found_past at (Some n) = Some (at + n)

further : (at : ℕ) (found : Option ℕ) → found_past at (one_further found) ≡ found_past (at + 1) found
further at None = refl
further at (Some n) = let e : at + suc n ≡ at + 1 + n = omega arith in ap (λ k. Some k) e

pub brace_next : (text : List ℕ) (at : ℕ) → at < length text → slice_index text at ≢ 125 → found_past at (to_brace (drop at text)) ≡ found_past (at + 1) (to_brace (drop (at + 1) text))
brace_next text at within h =
    let e : nat_eq (slice_index text at) 125 ≡ false = grind (arith, nat_tests) in
    ap (found_past at) (ap to_brace (next text at within) ∙ ap (λ b. cond b (Some 0) (one_further (to_brace (drop (at + 1) text)))) e) ∙ further at (to_brace (drop (at + 1) text))

pub brace_last : (text : List ℕ) (at : ℕ) → at < length text → slice_index text at ≡ 125 → found_past at (to_brace (drop at text)) ≡ Some at
brace_last text at within h =
    let e : nat_eq (slice_index text at) 125 ≡ true = grind (arith, nat_tests) in
    let n : at + 0 ≡ at = omega arith in
    ap (found_past at) (ap to_brace (next text at within) ∙ ap (λ b. cond b (Some 0) (one_further (to_brace (drop (at + 1) text)))) e) ∙ ap (λ k. Some k) n
