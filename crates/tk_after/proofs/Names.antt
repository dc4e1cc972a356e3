-- Names of numbers, and the texts of errors.
use Rattle.std.proofs.Common.{◌≡◌, ◌≢◌, ◌⊎◌, inl, inr, ℕ, ◌^◌, ◌<◌, Bool, true, false, ◌&&◌, List, [], ◌∷◌, ◌++◌, length, take, drop, Option, Some, refl, ap, ◌∙◌, sym, arith}
use Rattle.std.proofs.lemmas.Bool.Decides.{nat_tests}
use Rattle.std.proofs.lemmas.Bool.{cases_eq, eq-eqb, ne_eqb}
use Rattle.std.proofs.lemmas.Fmt.{decimal_injective}
use Rattle.std.proofs.lemmas.Slice.Eq.{bytes_eq-Decides}
use Rattle.std.specs.List.{AllByRecursion}
use Rattle.std.specs.Prelude.{◌==◌, find, if◌then◌else◌, option_map}
use Rattle.std.specs.Str.{bytes_eq}
use Rattle.tk_base.specs.Numbered.{numbered}
use Rattle.tk_after.specs.After.{name_of}
use Rattle.tk_after.specs.declared.keys.Name.{Name}
use Rattle.tk_after.specs.Keys.{IsNumber, Mark, mark_in, mark_number, marks_of}

-- two texts are equal where the front of the one is the other's and so is the rest
pub bytes_eq-append : (front rest text : List ℕ) → bytes_eq (front ++ rest) text ≡ (bytes_eq (take (length front) text) front && bytes_eq rest (drop (length front) text))
bytes_eq-append [] rest text = refl
bytes_eq-append (c ∷ front) rest [] = refl
bytes_eq-append (c ∷ front) rest (d ∷ text) = grind (arith, nat_tests, bytes_eq-append front rest text)

pub front_differs : (front rest text piece bytes : List ℕ) → piece ≡ front → bytes ≡ text → bytes_eq (take (length piece) bytes) piece ≡ false → bytes_eq (front ++ rest) text ≡ false
front_differs front rest text piece bytes p b differ =
    bytes_eq-append front rest text ∙ ap (λ (t : Bool). t && bytes_eq rest (drop (length front) text)) (rw (p, b) at differ)

pub front_same : (front rest text piece bytes behind : List ℕ) → piece ≡ front → bytes ≡ text → bytes_eq (take (length piece) bytes) piece ≡ true → behind ≡ drop (length piece) bytes → bytes_eq (front ++ rest) text ≡ bytes_eq rest behind
front_same front rest text piece bytes behind p b same is =
    bytes_eq-append front rest text ∙ ap (λ (t : Bool). t && bytes_eq rest (drop (length front) text)) (rw (p, b) at same) ∙ ap (bytes_eq rest) (sym (rw (p, b) at is))

-- ── a number by its name ──

same_text : (xs ys : List ℕ) → bytes_eq xs ys ≡ true → xs ≡ ys
same_text xs ys is = (bytes_eq-Decides xs ys).0 is

-- names of different numbers differ
name_apart : (m n : ℕ) (text : List ℕ) → m < 2 ^ 64 → n < 2 ^ 64 → bytes_eq (name_of n) text ≡ true → m ≢ n → bytes_eq (name_of m) text ≡ false
unfolding name_of
name_apart m n text small its_small is differ = by (bytes_eq (name_of m) text) refl
  where
    by : (b : Bool) → bytes_eq (name_of m) text ≡ b → bytes_eq (name_of m) text ≡ false
    by false isnt = isnt
    by true its = absurd (differ (decimal_injective m n small its_small (ap (drop 6) (same_text (name_of m) text its ∙ sym (same_text (name_of n) text is)))))

-- the number itself is found
named_mark : (n : ℕ) (text : List ℕ) (mark : Mark) → mark.id < 2 ^ 64 → n < 2 ^ 64 → bytes_eq (name_of n) text ≡ true → (mark.id == n) ≡ bytes_eq (name_of mark.id) text
named_mark n text mark small its_small is = by (cases_eq mark.id n)
  where
    by : (mark.id ≡ n) ⊎ (mark.id ≢ n) → (mark.id == n) ≡ bytes_eq (name_of mark.id) text
    by (inl same) = eq-eqb mark.id n same ∙ sym is ∙ ap (λ m. bytes_eq (name_of m) text) (sym same)
    by (inr differ) = ne_eqb mark.id n differ ∙ sym (name_apart mark.id n text small its_small is differ)

pub named_at : (owner n : ℕ) (rows : List (Name × Option ℕ)) (text : List ℕ) → AllByRecursion IsNumber rows → n < 2 ^ 64 → bytes_eq (name_of n) text ≡ true
    → numbered mark_number n (marks_of owner rows) ≡ find (λ (mark : Mark). bytes_eq (name_of mark.id) text) (marks_of owner rows)
named_at owner n [] text small its_small is = refl
named_at owner n (row ∷ rows) text small its_small is = by (row.0.owner == owner) (named_at owner n rows text small.1 its_small is)
  where
    by : (b : Bool) → numbered mark_number n (marks_of owner rows) ≡ find (λ (mark : Mark). bytes_eq (name_of mark.id) text) (marks_of owner rows)
        → numbered mark_number n (if b then mark_in row ∷ marks_of owner rows else marks_of owner rows)
        ≡ find (λ (mark : Mark). bytes_eq (name_of mark.id) text) (if b then mark_in row ∷ marks_of owner rows else marks_of owner rows)
    by true rest =
        ap (λ (b : Bool). if b then Some (mark_in row) else numbered mark_number n (marks_of owner rows)) (named_mark n text (mark_in row) small.0 its_small is)
        ∙ ap (λ (found : Option Mark). if bytes_eq (name_of row.0.id) text then Some (mark_in row) else found) rest
    by false rest = rest

-- a number that is listed, by its mark
number_told : (n : ℕ) (marks : List Mark) → option_map (λ (its : Option ℕ). n) (option_map (λ (mark : Mark). mark.due) (numbered mark_number n marks)) ≡ option_map mark_number (numbered mark_number n marks)
number_told n [] = refl
number_told n (mark ∷ marks) = by (cases_eq mark.id n) (number_told n marks)
  where
    by : (mark.id ≡ n) ⊎ (mark.id ≢ n)
        → option_map (λ (its : Option ℕ). n) (option_map (λ (mark : Mark). mark.due) (numbered mark_number n marks)) ≡ option_map mark_number (numbered mark_number n marks)
        → option_map (λ (its : Option ℕ). n) (option_map (λ (mark : Mark). mark.due) (numbered mark_number n (mark ∷ marks))) ≡ option_map mark_number (numbered mark_number n (mark ∷ marks))
    by (inl same) rest = rw (eq-eqb mark.id n same) (ap Some (sym same))
    by (inr differ) rest = rw (ne_eqb mark.id n differ) rest

pub listed_number : (n : ℕ) (marks : List Mark) (found : Option (Option ℕ)) (due : Option ℕ) → found ≡ option_map (λ (mark : Mark). mark.due) (numbered mark_number n marks) → found ≡ Some due
    → Some n ≡ option_map mark_number (numbered mark_number n marks)
listed_number n marks found due told is = ap (option_map (λ (its : Option ℕ). n)) (sym is ∙ told) ∙ number_told n marks
