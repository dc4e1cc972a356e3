-- The fields of a pattern, one after another.
use Rattle.std.proofs.Common.{◌≡◌, ℕ, suc, ◌+◌, ◌-◌, ◌<◌, Bool, true, cond, List, [], ◌∷◌, length, take, drop, get_or, not, IsUtf8, refl, sym, ap, ◌∙◌, subst, inl, inr, arith}
use Rattle.std.specs.Prelude.{filter}
use Rattle.std.specs.List.{prefix_len, position_or_len, slice_split}
use Rattle.std.specs.Str.{IsCharBoundary}
use Rattle.std.proofs.lemmas.Bool.{cases_Bool, cases_lt}
use Rattle.std.proofs.lemmas.Bool.Decides.{nat_tests}
use Rattle.std.proofs.lemmas.List.{take_all, drop_all, drop_more, length-take-le}
use Rattle.std.proofs.lemmas.List.Sums.{prefix_len-le-length, prefix_len-drop_no, prefix_len-drop_all, prefix_len_stops, passes_at_first, fails_before_first}
use Rattle.std.proofs.lemmas.List.Splits.{slice_split-cons_yes, slice_split_first, slice_split_none}
use Rattle.std.proofs.lemmas.Str.{IsCharBoundary-before_ascii, IsCharBoundary-end}
use Rattle.tk_sequences.specs.Reading.{fields}
use Rattle.tk_sequences.specs.Words.{is_separator, is_some_text}
use Rattle.tk_sequences.proofs.PieceLemmas.{front_boundary}

separator_low : (byte : ℕ) → is_separator byte ≡ true → byte < 128
separator_low byte is = grind (arith, nat_tests)

fields-sep : (byte : ℕ) (bytes : List ℕ) → is_separator byte ≡ true → fields (byte ∷ bytes) ≡ fields bytes
unfolding fields
fields-sep byte bytes sep = ap (filter is_some_text) (slice_split-cons_yes is_separator byte bytes sep)

-- separators in front change no fields
pub fields-skip : (text : List ℕ) → fields (drop (prefix_len is_separator text) text) ≡ fields text
fields-skip [] = refl
fields-skip (byte ∷ bytes) = elim (cases_Bool (is_separator byte)) [
  | inl sep ↦
      let at : prefix_len is_separator (byte ∷ bytes) ≡ suc (prefix_len is_separator bytes) = rw sep (omega arith) in
      ap (λ n. fields (drop n (byte ∷ bytes))) at ∙ fields-skip bytes ∙ sym (fields-sep byte bytes sep)
  | inr other ↦
      let at : prefix_len is_separator (byte ∷ bytes) ≡ 0 = rw other refl in
      ap (λ n. fields (drop n (byte ∷ bytes))) at
]

-- behind them none stands in front
pub skipped : (text : List ℕ) → prefix_len is_separator (drop (prefix_len is_separator text) text) ≡ 0
skipped text = elim (cases_lt (prefix_len is_separator text) (length text)) [
  | inl inside ↦ prefix_len-drop_no is_separator text (prefix_len is_separator text) 0 inside (prefix_len_stops is_separator text 0 inside)
  | inr past ↦ prefix_len-drop_all is_separator text (prefix_len is_separator text) past
]

-- a text may be cut there
pub skip_boundary : (text : List ℕ) → IsUtf8 text → IsCharBoundary text (prefix_len is_separator text)
skip_boundary = front_boundary is_separator separator_low

pub stop_boundary : (text : List ℕ) → IsUtf8 text → IsCharBoundary text (position_or_len is_separator text)
stop_boundary text utf8 = elim (cases_lt (position_or_len is_separator text) (length text)) [
  | inl inside ↦ IsCharBoundary-before_ascii text (position_or_len is_separator text) inside
      (separator_low (get_or text (position_or_len is_separator text) 0) (passes_at_first is_separator text 0 inside))
  | inr past ↦
      let within = prefix_len-le-length (λ byte. not (is_separator byte)) text in
      let end : length text ≡ position_or_len is_separator text = omega arith in
      subst (IsCharBoundary text) end (IsCharBoundary-end text)
]

pub fields-none : (text : List ℕ) → prefix_len is_separator text ≡ 0 → position_or_len is_separator text ≡ 0 → fields text ≡ []
unfolding fields
fields-none [] front none = refl
fields-none (byte ∷ bytes) front none = elim (cases_Bool (is_separator byte)) [
  | inl sep ↦ absurd (let h : 1 + prefix_len is_separator bytes ≡ 0 = rw sep at front in omega arith)
  | inr other ↦ absurd (let h : 1 + position_or_len is_separator bytes ≡ 0 = rw other at none in omega arith)
]

some_first : (word : List ℕ) (words : List (List ℕ)) → 0 < length word → filter is_some_text (word ∷ words) ≡ word ∷ filter is_some_text words
some_first [] words some = absurd (omega arith)
some_first (byte ∷ bytes) words some =
    let is : is_some_text (byte ∷ bytes) ≡ true = grind (arith, nat_tests) in
    ap (λ (test : Bool). cond test ((byte ∷ bytes) ∷ filter is_some_text words) (filter is_some_text words)) is

-- in front of a separator, or of the end, stands the first field
pub fields-some : (text : List ℕ) → 0 < position_or_len is_separator text
    → fields text ≡ take (position_or_len is_separator text) text ∷ fields (drop (position_or_len is_separator text) text)
unfolding fields
fields-some text some =
    let n = position_or_len is_separator text in
    let within = prefix_len-le-length (λ byte. not (is_separator byte)) text in
    let long : 0 < length (take n text) = rw (length-take-le n text within) some in
    elim (cases_lt n (length text)) [
      | inl inside ↦
          ap (filter is_some_text) (slice_split_first is_separator text 0 inside)
          ∙ some_first (take n text) (slice_split is_separator (drop (n + 1) text)) long
          ∙ ap (λ (words : List (List ℕ)). take n text ∷ words)
          (sym (fields-sep (get_or text n 0) (drop (n + 1) text) (passes_at_first is_separator text 0 inside)) ∙ ap fields (sym (drop_more text n 0 inside)))
      | inr past ↦
          ap (filter is_some_text) (slice_split_none is_separator text (λ k d lt. fails_before_first is_separator text k d (omega arith)))
          ∙ ap (λ (word : List ℕ). filter is_some_text (word ∷ [])) (sym (take_all n text past))
          ∙ some_first (take n text) [] long
          ∙ ap (λ (rest : List ℕ). take n text ∷ fields rest) (sym (drop_all n text past))
    ]
