-- Facts about the characters of a text, and white space at its ends.
use Rattle.std.proofs.Common.{◌≡◌, ℕ, ◌+◌, ◌-◌, ◌<◌, ◌≤◌, ◌⊎◌, inl, inr, Bool, true, false, List, [], ◌∷◌, ◌++◌, length, take, drop, get_or, min, refl, sym, ap, subst, ◌∙◌, arith}
use Rattle.std.specs.Str.{chars, IsUtf8, IsAscii, IsCharBoundary}
use Rattle.std.specs.Char.{encode_utf8}
use Rattle.std.proofs.lemmas.Str.{chars-append, chars-IsAscii, encode_ascii, inside_one, length-encode, len_utf8_bounds, IsUtf8-take, IsCharBoundary-from_drop, IsAscii-take, IsAscii-drop, drop_past_char}
use Rattle.std.specs.Char.{len_utf8}
use Rattle.std.proofs.lemmas.List.{length-append, length-drop}
use Rattle.std.proofs.lemmas.Bool.{false≢true, cases_lt}
use Rattle.std.proofs.lemmas.Bool.Decides.{nat_tests}
use Rattle.std.proofs.lemmas.List.{take-append-drop, drop-drop, append-nil, append_assoc, take_all, take_more, drop_all, append_cancel_right}
use Rattle.tcl_text.specs.Backslash.{is_white}
use Rattle.tcl_text.specs.StringCommands.{drop_white_end}

-- white space is ASCII
pub is_white-ascii : (c : ℕ) → is_white c ≡ true → c < 128
is_white-ascii c h = grind (arith, nat_tests)

-- a text that ends with white space, and one that ends with another character
drop_white_end-push : (text : List ℕ) (c : ℕ) → is_white c ≡ true → drop_white_end (text ++ c ∷ []) ≡ drop_white_end text
drop_white_end-push [] c white = rw white refl
drop_white_end-push (b ∷ bs) c white = rw (drop_white_end-push bs c white) refl

pub drop_white_end-white : (c : ℕ) (front text : List ℕ) → text ≡ front ++ encode_utf8 c → is_white c ≡ true → drop_white_end front ≡ drop_white_end text
drop_white_end-white c front text is white =
    let one : encode_utf8 c ≡ c ∷ [] = encode_ascii c (is_white-ascii c white) in
    rw (is, one) (sym (drop_white_end-push front c white))

drop_white_end-keeps : (text : List ℕ) (b : ℕ) → is_white b ≡ false → drop_white_end (text ++ b ∷ []) ≡ text ++ b ∷ []
drop_white_end-keeps [] b dark = rw dark refl
drop_white_end-keeps (x ∷ []) b dark = rw dark refl
drop_white_end-keeps (x ∷ y ∷ ys) b dark = rw (drop_white_end-keeps (y ∷ ys) b dark) refl

-- a byte of a character that isn't white space is none either
byte_dark : (c k : ℕ) → is_white c ≡ false → k < length (encode_utf8 c) → is_white (get_or (encode_utf8 c) k 0) ≡ false
byte_dark c k dark within = go (is_white (get_or (encode_utf8 c) k 0)) refl where
  go : (w : Bool) → is_white (get_or (encode_utf8 c) k 0) ≡ w → is_white (get_or (encode_utf8 c) k 0) ≡ false
  go false e = e
  go true e =
      let same : c ≡ get_or (encode_utf8 c) k 0 = inside_one c [] (encode_utf8 c) k (sym (append-nil (encode_utf8 c))) within (is_white-ascii _ e) in
      absurd (false≢true (sym dark ∙ ap is_white same ∙ e))

last_cut : (bytes : List ℕ) → 0 < length bytes → bytes ≡ take (length bytes - 1) bytes ++ get_or bytes (length bytes - 1) 0 ∷ []
last_cut bytes some =
    let n : length bytes - 1 + 1 ≡ length bytes = omega arith in
    sym (take_all (length bytes - 1 + 1) bytes (omega arith)) ∙ take_more bytes (length bytes - 1) 0 (omega arith)

pub drop_white_end-dark : (c : ℕ) (front text : List ℕ) → text ≡ front ++ encode_utf8 c → is_white c ≡ false → text ≡ drop_white_end text
drop_white_end-dark c front text is dark =
    let e = encode_utf8 c in
    let some : 0 < length e = omega (arith, length-encode c, (len_utf8_bounds c).0) in
    let cut : text ≡ (front ++ take (length e - 1) e) ++ get_or e (length e - 1) 0 ∷ [] = is ∙ ap (λ (t : List ℕ). front ++ t) (last_cut e some) ∙ sym (append_assoc front _ _) in
    rw cut (sym (drop_white_end-keeps _ _ (byte_dark c (length e - 1) dark (omega arith))))

-- a text of ASCII is cut at bytes
ascii_take : (n : ℕ) (text : List ℕ) → take (min n (length text)) text ≡ take n text
ascii_take n text = elim (cases_lt n (length text)) [
  | inl less ↦ let m : min n (length text) ≡ n = omega arith in rw m refl
  | inr more ↦ let m : min n (length text) ≡ length text = omega arith in rw m (take_all (length text) text (omega arith) ∙ sym (take_all n text more))
]

ascii_drop : (n : ℕ) (text : List ℕ) → drop (min n (length text)) text ≡ drop n text
ascii_drop n text = elim (cases_lt n (length text)) [
  | inl less ↦ let m : min n (length text) ≡ n = omega arith in rw m refl
  | inr more ↦ let m : min n (length text) ≡ length text = omega arith in rw m (drop_all (length text) text (omega arith) ∙ sym (drop_all n text more))
]

pub ascii_front : (n : ℕ) (text front : List ℕ) → IsAscii text → front ≡ take (min n (length text)) text → chars front ≡ take n (chars text)
ascii_front n text front ascii is =
    ap chars (is ∙ ascii_take n text) ∙ chars-IsAscii (take n text) (IsAscii-take text n ascii) ∙ ap (take n) (sym (chars-IsAscii text ascii))

pub ascii_back : (n : ℕ) (text back : List ℕ) → IsAscii text → back ≡ drop (min n (length text)) text → chars back ≡ drop n (chars text)
ascii_back n text back ascii is =
    ap chars (is ∙ ascii_drop n text) ∙ chars-IsAscii (drop n text) (IsAscii-drop text n ascii) ∙ ap (drop n) (sym (chars-IsAscii text ascii))

-- rest is what stands in the text from a byte on
pub record IsEnd (text rest : List ℕ) : Type 0 where
  pub start : ℕ
  pub within : start ≤ length text
  pub is : rest ≡ drop start text

pub IsEnd-whole : (text : List ℕ) → IsEnd text text
IsEnd-whole text = record { start = 0; within = omega arith; is = refl }

pub IsEnd-past : (text rest after : List ℕ) (c : ℕ) → IsEnd text rest → rest ≡ encode_utf8 c ++ after → IsEnd text after
IsEnd-past text rest after c end is = record {
  start = end.start + len_utf8 c;
  within = let long : length (drop end.start text) ≡ length (encode_utf8 c) + length after = ap length (sym end.is ∙ is) ∙ length-append (encode_utf8 c) after in
      omega (arith, length-drop end.start text, length-encode c, end.within);
  is = sym (drop_past_char text after end.start c (sym end.is ∙ is));
}

IsEnd-start : (text rest : List ℕ) (end : IsEnd text rest) → length text - length rest ≡ end.start
IsEnd-start text rest end = let long : length rest ≡ length (drop end.start text) = ap length end.is in omega (arith, length-drop end.start text, end.within)

pub IsEnd-boundary : (text rest : List ℕ) → IsEnd text rest → IsUtf8 rest → IsCharBoundary text (length text - length rest)
IsEnd-boundary text rest end utf8 = rw (IsEnd-start text rest end) (IsCharBoundary-from_drop text end.start end.within (subst IsUtf8 end.is utf8))

pub IsEnd-front : (text rest front : List ℕ) (n : ℕ) → IsEnd text rest → IsUtf8 text → IsUtf8 rest → front ≡ take (length text - length rest) text → chars rest ≡ drop n (chars text) → chars front ≡ take n (chars text)
IsEnd-front text rest front n end utf8 rest_utf8 is at =
    let front_is : front ≡ take end.start text = is ∙ ap (λ (k : ℕ). take k text) (IsEnd-start text rest end) in
    let boundary = IsCharBoundary-from_drop text end.start end.within (subst IsUtf8 end.is rest_utf8) in
    let front_utf8 : IsUtf8 front = subst IsUtf8 (sym front_is) (IsUtf8-take text end.start utf8 boundary) in
    let whole : chars front ++ drop n (chars text) ≡ take n (chars text) ++ drop n (chars text) =
    ap (λ (t : List ℕ). chars front ++ t) (sym at) ∙ sym (chars-append front rest front_utf8) ∙ ap chars (ap (λ (t : List ℕ). t ++ rest) front_is ∙ ap (λ (t : List ℕ). take end.start text ++ t) end.is ∙ take-append-drop end.start text) ∙ sym (take-append-drop n (chars text))
    in
    append_cancel_right _ _ _ whole

pub IsEnd-back : (text rest back : List ℕ) (n : ℕ) → IsEnd text rest → back ≡ drop (length text - length rest) text → chars rest ≡ drop n (chars text) → chars back ≡ drop n (chars text)
IsEnd-back text rest back n end is at = ap chars (is ∙ ap (λ (k : ℕ). drop k text) (IsEnd-start text rest end) ∙ sym end.is) ∙ at

-- nothing is left behind more characters either
pub drop-nothing_left : (n m : ℕ) (cs : List ℕ) → n ≤ m → [] ≡ drop n cs → [] ≡ drop m cs
drop-nothing_left n m cs h e =
    let k : m ≡ n + (m - n) = omega arith in
    sym (ap (λ (i : ℕ). drop i cs) k ∙ sym (drop-drop (m - n) n cs) ∙ ap (drop (m - n)) (sym e) ∙ drop_all (m - n) [] (omega arith))

-- where counting stopped, because it was done or nothing was left
pub at_count : (rest text : List ℕ) (n count : ℕ) → chars rest ≡ drop n (chars text) → n ≤ count → (count ≤ n) ⊎ (chars rest ≡ []) → chars rest ≡ drop count (chars text)
at_count rest text n count at h (inl done) = let e : n ≡ count = omega arith in at ∙ ap (λ (k : ℕ). drop k (chars text)) e
at_count rest text n count at h (inr none) = none ∙ drop-nothing_left n count (chars text) h (sym none ∙ at)
