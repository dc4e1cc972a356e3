-- The copies of patterns: how many there are, and which stands where.
use Rattle.std.proofs.Common.{◌≡◌, ℕ, zero, suc, ◌+◌, ◌-◌, ◌<◌, ◌≤◌, List, [], ◌∷◌, ◌++◌, length, Some, slice_get, refl, sym, ap, ◌∙◌, append_assoc, append-nil, length-append, add_comm, add-one, arith, drop}
use Rattle.std.specs.Prelude.{nat_lt}
use Rattle.std.proofs.lemmas.List.Sums.{sum_by-cons}
use Rattle.circular_buffer.proofs.Places.{slice_get-append_right}
use Rattle.tk_patterns.specs.Copies.{newest_copy, earlier_copies, copies_of, all_copies}
use Rattle.tk_patterns.specs.declared.copies.PatternCopy.{PatternCopy}
use Rattle.tk_sequences.specs.declared.pattern.Pattern.{Pattern}
use Rattle.tk_sequences.specs.declared.pattern.Repetition.{Repetition}
use Rattle.tk_sequences.specs.declared.pattern.Repetition.TheVariants.{Single, Double, Triple, Quadruple}
use Rattle.tk_sequences.specs.Patterns.{count_of, times_of}

length_copies_by : (times : Repetition) (pattern : Pattern) → length (newest_copy pattern ∷ earlier_copies times pattern) ≡ times_of times
length_copies_by Single pattern = refl
length_copies_by Double pattern = refl
length_copies_by Triple pattern = refl
length_copies_by Quadruple pattern = refl

pub length_copies : (pattern : Pattern) → length (copies_of pattern) ≡ times_of pattern.times
length_copies pattern = length_copies_by pattern.times pattern

-- as many as the patterns stand for
pub length_all_copies : (patterns : List Pattern) → length (all_copies patterns) ≡ count_of patterns
length_all_copies [] = refl
length_all_copies (pattern ∷ patterns) =
    length-append (all_copies patterns) (copies_of pattern)
    ∙ ap (λ n. n + length (copies_of pattern)) (length_all_copies patterns)
    ∙ ap (λ n. count_of patterns + n) (length_copies pattern)
    ∙ add_comm (count_of patterns) (times_of pattern.times)
    ∙ sym (sum_by-cons (λ p. times_of p.times) pattern patterns)

-- the last pattern's copies come first
pub copies_last : (front : List Pattern) (pattern : Pattern) → all_copies (front ++ pattern ∷ []) ≡ copies_of pattern ++ all_copies front
copies_last [] pattern = sym (append-nil (copies_of pattern))
copies_last (first ∷ front) pattern = ap (λ copies. copies ++ copies_of first) (copies_last front pattern) ∙ append_assoc (copies_of pattern) (all_copies front) (copies_of first)

abbrev pub nth_copy : Pattern → ℕ → PatternCopy
nth_copy pattern place = record { pattern = pattern; again = nat_lt 0 place }

copy_there_by : (times : Repetition) (pattern : Pattern) (rest : List PatternCopy) (place : ℕ) → place < times_of times → slice_get ((newest_copy pattern ∷ earlier_copies times pattern) ++ rest) place ≡ Some (nth_copy pattern place)
copy_there_by Single pattern rest zero below = refl
copy_there_by Single pattern rest (suc place) below = absurd (omega arith)
copy_there_by Double pattern rest zero below = refl
copy_there_by Double pattern rest (suc zero) below = refl
copy_there_by Double pattern rest (suc (suc place)) below = absurd (omega arith)
copy_there_by Triple pattern rest zero below = refl
copy_there_by Triple pattern rest (suc zero) below = refl
copy_there_by Triple pattern rest (suc (suc zero)) below = refl
copy_there_by Triple pattern rest (suc (suc (suc place))) below = absurd (omega arith)
copy_there_by Quadruple pattern rest zero below = refl
copy_there_by Quadruple pattern rest (suc zero) below = refl
copy_there_by Quadruple pattern rest (suc (suc zero)) below = refl
copy_there_by Quadruple pattern rest (suc (suc (suc zero))) below = refl
copy_there_by Quadruple pattern rest (suc (suc (suc (suc place)))) below = absurd (omega arith)

pub copy_there : (pattern : Pattern) (front : List Pattern) (place : ℕ) → place < times_of pattern.times → slice_get (all_copies (front ++ pattern ∷ [])) place ≡ Some (nth_copy pattern place)
copy_there pattern front place below = ap (λ copies. slice_get copies place) (copies_last front pattern) ∙ copy_there_by pattern.times pattern (all_copies front) place below

pub copies_past : (pattern : Pattern) (front : List Pattern) (place : ℕ) → times_of pattern.times ≤ place → slice_get (all_copies (front ++ pattern ∷ [])) place ≡ slice_get (all_copies front) (place - times_of pattern.times)
copies_past pattern front place above =
    let many = length_copies pattern in
    ap (λ copies. slice_get copies place) (copies_last front pattern)
    ∙ slice_get-append_right (copies_of pattern) (all_copies front) place (place - times_of pattern.times) (omega (arith, many))

rest_at_next : (first : PatternCopy) (copies : List PatternCopy) (place : ℕ) (copy : PatternCopy) → drop place copies ≡ copy ∷ drop (place + 1) copies → drop (suc place) (first ∷ copies) ≡ copy ∷ drop (suc (suc place)) (first ∷ copies)
rest_at_next first copies place copy h = h ∙ ap (λ n. copy ∷ drop n copies) (add-one place)

-- what is left behind a copy that is there
pub rest_at : (copies : List PatternCopy) (place : ℕ) (copy : PatternCopy) → slice_get copies place ≡ Some copy → drop place copies ≡ copy ∷ drop (place + 1) copies
rest_at [] place copy there = absurd (cc)
rest_at (first ∷ copies) zero copy there = let same : first ≡ copy = cc in ap (λ s. s ∷ copies) same
rest_at (first ∷ copies) (suc place) copy there = rw add-one (rest_at_next first copies place copy (rest_at copies place copy there))
