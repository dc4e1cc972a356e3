-- The characters between two indices stand in a front of the text.
use Rattle.std.proofs.Common.{◌≡◌, ℕ, zero, suc, ◌+◌, ◌≤◌, inl, inr, ℤ, pos, negsuc, List, [], ◌∷◌, ◌++◌, length, take, drop, min, refl, sym, ap, ◌∙◌, arith}
use Rattle.std.specs.Str.{chars, IsUtf8, IsAscii}
use Rattle.std.proofs.lemmas.Bool.{cases_lt}
use Rattle.std.proofs.lemmas.List.{length-take, take-append-drop, take_all, take_min, drop_all}
use Rattle.std.proofs.lemmas.Str.{chars-append, chars-IsAscii}
use Rattle.tcl_text.specs.Indices.{before, from_zero, part, through}
use Rattle.tcl_text.specs.declared.commands.indices.Index.{Index}
use Rattle.tcl_text.specs.declared.commands.indices.Index.TheVariants.{FromStart}

-- no more is left out than is there
drop_short : (q n : ℕ) (xs : List ℕ) → length xs ≤ n → drop (min q n) xs ≡ drop q xs
drop_short q n xs short = elim (cases_lt q n) [
  | inl less ↦ let m : min q n ≡ q = omega arith in rw m refl
  | inr more ↦ let m : min q n ≡ n = omega arith in rw m (drop_all n xs short ∙ sym (drop_all q xs (omega arith)))
]

part_from_start : (q : ℤ) (p : ℕ) (xs : List ℕ) → part (FromStart q) (FromStart (pos p)) xs ≡ drop (from_zero q) (take (p + 1) xs)
part_from_start q p xs =
    rw (take_min (p + 1) xs) (drop_short (from_zero q) (length xs) (take (p + 1) xs) (omega (arith, length-take (p + 1) xs)))

take_front : (n : ℕ) (front back : List ℕ) → n ≤ length front → take n (front ++ back) ≡ take n front
take_front zero front back within = refl
take_front (suc n) [] back within = absurd (omega (arith, within))
take_front (suc n) (c ∷ front) back within = ap (λ cs. c ∷ cs) (take_front n front back (omega (arith, within)))

-- a front of so many bytes, or the whole where there are fewer
same_front : (p : ℕ) (text front : List ℕ) → IsUtf8 front → IsAscii front → front ≡ take (min (p + 1) (length text)) text → take (p + 1) (chars front) ≡ take (p + 1) (chars text)
same_front p text front utf8 ascii is = elim (cases_lt (length text) (p + 1)) [
  | inl less ↦
      let m : min (p + 1) (length text) ≡ length text = omega arith in
      let whole : front ≡ text = is ∙ ap (λ (n : ℕ). take n text) m ∙ take_all (length text) text (omega arith) in
      ap (λ (t : List ℕ). take (p + 1) (chars t)) whole
  | inr more ↦
      let m : min (p + 1) (length text) ≡ p + 1 = omega arith in
      let front_is : front ≡ take (p + 1) text = is ∙ ap (λ (n : ℕ). take n text) m in
      let cut : text ≡ front ++ drop (p + 1) text = sym (ap (λ (t : List ℕ). t ++ drop (p + 1) text) front_is ∙ take-append-drop (p + 1) text) in
      let long : length (chars front) ≡ p + 1 = ap length (chars-IsAscii front ascii ∙ front_is) ∙ length-take (p + 1) text ∙ omega arith in
      sym (ap (λ (t : List ℕ). take (p + 1) (chars t)) cut ∙ ap (take (p + 1)) (chars-append front (drop (p + 1) text) utf8) ∙ take_front (p + 1) (chars front) (chars (drop (p + 1) text)) (omega arith))
]

pub part_of_front : (q last : ℤ) (text front : List ℕ) → IsUtf8 front → IsAscii front → front ≡ take (through (FromStart last) (length text)) text
    → part (FromStart q) (FromStart last) (chars front) ≡ part (FromStart q) (FromStart last) (chars text)
part_of_front q (pos p) text front utf8 ascii is =
    part_from_start q p (chars front) ∙ ap (drop (from_zero q)) (same_front p text front utf8 ascii is) ∙ sym (part_from_start q p (chars text))
part_of_front q (negsuc p) text front utf8 ascii is =
    drop_all (before (FromStart q) (length (chars front))) [] (omega arith) ∙ sym (drop_all (before (FromStart q) (length (chars text))) [] (omega arith))
