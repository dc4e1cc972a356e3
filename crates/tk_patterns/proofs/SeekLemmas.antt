-- The first binding that passes a test, where all that pass it are filed under one number.
use Rattle.std.proofs.Common.{◌≡◌, ℕ, zero, suc, ◌+◌, ◌*◌, ◌<◌, ◌≤◌, ◌==◌, Bool, true, false, true≢false, cond, not, List, [], ◌∷◌, length, length-drop, drop, fold, map, Option, Some, None, slice_get, refl, sym, ap, ◌∙◌, subst, arith}
use Rattle.std.specs.Prelude.{◌&&◌, find, nat_lt, position}
use Rattle.std.specs.List.{position_or_len}
use Rattle.std.proofs.lemmas.Bool.Decides.{nat_tests}
use Rattle.std.proofs.lemmas.List.Folds.{find_at}
use Rattle.std.proofs.lemmas.Option.{slice_get_within}
use Rattle.std.proofs.lemmas.Slice.Eq.{bytes_eq-Decides}
use Rattle.tk_sequences.specs.declared.detail.Detail.{Detail}
use Rattle.tk_sequences.specs.declared.detail.Detail.TheVariants.{Key, Button}
use Rattle.tk_sequences.specs.declared.pattern.Pattern.{Pattern}
use Rattle.tk_sequences.specs.declared.sequence.Sequence.{Sequence}
use Rattle.tk_sequences.specs.declared.sequence.Sequence.TheVariants.{Physical, Virtual}
use Rattle.tk_sequences.specs.Patterns.{times_of}
use Rattle.tk_sequences.specs.Types.{type_number}
use Rattle.tk_virtual.specs.Classes.{detail_number}
use Rattle.tk_patterns.specs.declared.binding.Binding.{Binding}
use Rattle.tk_patterns.specs.declared.filed.Filed.{Filed}
use Rattle.tk_patterns.specs.declared.filed.Numbers.{Numbers}
use Rattle.tk_patterns.specs.Filed.{numbers_of, stamps_of, has_whole, HasStampAt, IsRising}
use Rattle.tk_patterns.specs.Filing.{filed_under, filing_number, mixed, sequence_number, whole_number, with_detail, with_pattern}
use Rattle.tk_patterns.specs.Own.{has_tag, is_of}
use Rattle.tk_patterns.specs.Rests.{first_of, past}
use Rattle.tk_patterns.specs.Same.{same_detail, same_pattern, same_patterns, same_sequence}
use Rattle.tk_patterns.proofs.Reached.{rising_drop, numbers_drop, there_drop, drop_drop, same_length, at_stamp}
use Rattle.tk_patterns.proofs.RestLemmas.{NoneSought, step, none_left}

below_test : (place count : ℕ) → place < count → nat_lt place count ≡ true
below_test place count less = grind (arith, nat_tests)

above_test : (place count : ℕ) → count ≤ place → nat_lt place count ≡ false
above_test place count le = grind (arith, nat_tests)

first_gone : (stamp : ℕ) (rest : List ℕ) → past stamp (stamp ∷ rest) ≡ rest
first_gone stamp rest = let same : (stamp == stamp) ≡ true = grind (arith, nat_tests) in ap (λ t. cond t rest (stamp ∷ rest)) same

module _ (test : Binding → Bool) (number : ℕ) (filed_so : (binding : Binding) → test binding ≡ true → (whole_number binding == number) ≡ true) where
  abbrev sought : Numbers → Bool
  sought = has_whole number

  untested : (binding : Binding) → sought (filed_under binding) ≡ false → test binding ≡ false
  untested binding unsought = by (test binding) refl
    where
      by : (t : Bool) → test binding ≡ t → t ≡ false
      by true is = absurd (true≢false (sym (filed_so binding is) ∙ unsought))
      by false is = refl

  skipped : (place : ℕ) (own : List Binding) → place ≤ length own → NoneSought sought place (map filed_under own) → position_or_len test own ≡ place + position_or_len test (drop place own)
  skipped zero own within none = omega arith
  skipped (suc place) [] within none = absurd (omega arith)
  skipped (suc place) (binding ∷ own) within none =
      let rest = skipped place own (omega arith) none.1 in
      let same : 1 + position_or_len test own ≡ suc place + position_or_len test (drop place own) = omega (arith, rest) in
      ap (λ t. cond (not t) (1 + position_or_len test own) 0) (untested binding none.0) ∙ same

  module _ (list : List Filed) (own : List Binding) where
    -- from a place on all that may pass are still to come, and before it none passes
    pub record Seeking (rest : List ℕ) : Type 0 where
      pub from : ℕ
      pub left : rest ≡ stamps_of sought (drop from list)
      pub before : position_or_len test own ≡ from + position_or_len test (drop from own)

    pub begun : (rest : List ℕ) → rest ≡ stamps_of sought list → Seeking rest
    begun rest is = record { from = 0; left = is; before = omega arith }

    module _ (rising : IsRising list) (numbers : numbers_of list ≡ map filed_under own) where
      pub record Here (stamp : ℕ) (rest : List ℕ) : Type 0 where
        pub place : ℕ
        pub there : HasStampAt place stamp list
        pub binding : Binding
        pub is : slice_get own place ≡ Some binding
        pub found : test binding ≡ true → position test own ≡ Some place
        pub later : test binding ≡ false → Seeking rest

      pub here : (stamp : ℕ) (rest : List ℕ) → Seeking (stamp ∷ rest) → Here stamp rest
      here stamp rest reached =
          let from = reached.from in
          let left = drop from list in
          let first = step sought stamp left (rising_drop from list rising) (sym (ap first_of reached.left)) in
          let place = from + first.place in
          let there : HasStampAt place stamp list = there_drop from first.place stamp list first.there in
          let at = at_stamp place stamp list own numbers there in
          let below = slice_get_within own place at.binding at.is in
          let short : first.place ≤ length (drop from own) = omega (arith, length-drop from own, below) in
          let passed = skipped first.place (drop from own) short (subst (NoneSought sought first.place) (numbers_drop from list own numbers) first.before) in
          let at_place : position_or_len test (drop first.place (drop from own)) ≡ cond (not (test at.binding)) (1 + position_or_len test (drop (suc place) own)) 0 = ap (position_or_len test) (drop_drop from first.place own ∙ at.rest) in
          let behind : drop (suc first.place) left ≡ drop (suc place) list = (let same : from + suc first.place ≡ suc place = omega arith in drop_drop from (suc first.place) list ∙ ap (λ n. drop n list) same) in
          record {
            place = place;
            there = there;
            binding = at.binding;
            is = at.is;
            found = λ passes.
                let none : position_or_len test (drop first.place (drop from own)) ≡ 0 = at_place ∙ ap (λ t. cond (not t) (1 + position_or_len test (drop (suc place) own)) 0) passes in
                let whole : position_or_len test own ≡ place = omega (arith, reached.before, passed, none) in
                ap (λ n. cond (nat_lt n (length own)) (Some n) None) whole ∙ ap (λ t. cond t (Some place) None) (below_test place (length own) below);
            later = λ fails.
                let some : position_or_len test (drop first.place (drop from own)) ≡ 1 + position_or_len test (drop (suc place) own) = at_place ∙ ap (λ t. cond (not t) (1 + position_or_len test (drop (suc place) own)) 0) fails in
                record {
                  from = suc place;
                  left = sym (first_gone stamp rest) ∙ ap (past stamp) reached.left ∙ first.left sought (λ n h. h) ∙ ap (stamps_of sought) behind;
                  before = omega (arith, reached.before, passed, some);
                };
          }

      -- where no stamp is left, none passes
      pub nowhere : (rest : List ℕ) → Seeking rest → length rest ≡ 0 → position test own ≡ None
      nowhere (stamp ∷ rest) reached gone = absurd (omega (arith, gone))
      nowhere [] reached gone =
          let from = reached.from in
          let none = none_left sought (drop from list) (sym (ap first_of reached.left)) in
          let many : length (drop from list) ≡ length (drop from own) = same_length (drop from list) (drop from own) (numbers_drop from list own numbers) in
          let all = subst (λ n. NoneSought sought n (map filed_under (drop from own))) many (subst (NoneSought sought (length (drop from list))) (numbers_drop from list own numbers) none) in
          let passed = skipped (length (drop from own)) (drop from own) (omega arith) all in
          let past_all : length own ≤ position_or_len test own = omega (arith, reached.before, passed, length-drop from own) in
          ap (λ t. cond t (Some (position_or_len test own)) None) (above_test (position_or_len test own) (length own) past_all)

-- none is found where there is no place
pub not_found : (test : Binding → Bool) (own : List Binding) → position test own ≡ None → find test own ≡ None
not_found test own is = find_at test own ∙ by (slice_get own (position_or_len test own)) refl
  where
    by : (found : Option Binding) → slice_get own (position_or_len test own) ≡ found → found ≡ None
    by None h = refl
    by (Some binding) h =
        absurd (let there : Some (position_or_len test own) ≡ None = sym (ap (λ t. cond t (Some (position_or_len test own)) None) (below_test (position_or_len test own) (length own) (slice_get_within own (position_or_len test own) binding h))) ∙ is in cc)

-- what stands at the first place is what is found
pub found_at : (test : Binding → Bool) (own : List Binding) (place : ℕ) → position test own ≡ Some place → slice_get own place ≡ find test own
found_at test own place is = by (nat_lt (position_or_len test own) (length own)) is
  where
    by : (t : Bool) → cond t (Some (position_or_len test own)) None ≡ Some place → slice_get own place ≡ find test own
    by true is = let same : position_or_len test own ≡ place = cc in ap (slice_get own) (sym same) ∙ sym (find_at test own)
    by false is = absurd (cc)

-- ── the bindings of a tag for a sequence are filed under its number ──
all_four : (a b c d : Bool) → (a && b && c && d) ≡ true → (a ≡ true) × (b ≡ true) × (c ≡ true) × (d ≡ true)
all_four true true true true h = (refl, refl, refl, refl)
all_four true true true false h = absurd (cc)
all_four true true false d h = absurd (cc)
all_four true false c d h = absurd (cc)
all_four false b c d h = absurd (cc)

both_so : (a b : Bool) → (a && b) ≡ true → (a ≡ true) × (b ≡ true)
both_so true true h = (refl, refl)
both_so true false h = absurd (cc)
both_so false b h = absurd (cc)

equal : (m n : ℕ) → (m == n) ≡ true → m ≡ n
equal m n h = grind (arith, nat_tests, h)

one_detail : (detail other : Option Detail) → same_detail detail other ≡ true → detail ≡ other
one_detail None None h = refl
one_detail None (Some other) h = absurd (cc)
one_detail (Some (Key key)) (Some (Key other)) h = ap (λ k. Some (Key k)) (equal key other h)
one_detail (Some (Button button)) (Some (Button other)) h = ap (λ b. Some (Button b)) (equal button other h)
one_detail (Some (Key key)) (Some (Button other)) h = absurd (cc)
one_detail (Some (Button button)) (Some (Key other)) h = absurd (cc)
one_detail (Some (Key key)) None h = absurd (cc)
one_detail (Some (Button button)) None h = absurd (cc)

-- what the number of a pattern is made of
abbrev with_parts : ℕ → ℕ → ℕ → ℕ → Option Detail → ℕ
with_parts number modifiers times type detail = with_detail (mixed (mixed (mixed number modifiers) times) (type * 1024 + detail_number detail)) detail

same_with_pattern : (number : ℕ) (pattern other : Pattern) → same_pattern pattern other ≡ true → with_pattern number pattern ≡ with_pattern number other
same_with_pattern number pattern other h =
    let parts = all_four (pattern.modifiers == other.modifiers) (times_of pattern.times == times_of other.times) (type_number pattern.kind == type_number other.kind) (same_detail pattern.detail other.detail) h in
    ap (λ m. with_parts number m (times_of pattern.times) (type_number pattern.kind) pattern.detail) (equal pattern.modifiers other.modifiers parts.0)
    ∙ ap (λ t. with_parts number other.modifiers t (type_number pattern.kind) pattern.detail) (equal (times_of pattern.times) (times_of other.times) parts.1)
    ∙ ap (λ k. with_parts number other.modifiers (times_of other.times) k pattern.detail) (equal (type_number pattern.kind) (type_number other.kind) parts.2)
    ∙ ap (with_parts number other.modifiers (times_of other.times) (type_number other.kind)) (one_detail pattern.detail other.detail parts.3)

same_numbers : (number : ℕ) (patterns others : List Pattern) → same_patterns patterns others ≡ true → fold with_pattern number patterns ≡ fold with_pattern number others
same_numbers number [] [] h = refl
same_numbers number [] (other ∷ others) h = absurd (cc)
same_numbers number (pattern ∷ patterns) [] h = absurd (cc)
same_numbers number (pattern ∷ patterns) (other ∷ others) h =
    let parts = both_so (same_pattern pattern other) (same_patterns patterns others) h in
    ap (λ n. fold with_pattern n patterns) (same_with_pattern number pattern other parts.0) ∙ same_numbers (with_pattern number other) patterns others parts.1

same_number : (sequence other : Sequence) → same_sequence sequence other ≡ true → sequence_number sequence ≡ sequence_number other
same_number (Physical patterns) (Physical others) h = same_numbers 0 patterns others h
same_number (Virtual name) (Virtual other) h = ap (λ n. filing_number n 0) ((bytes_eq-Decides name other).0 h)
same_number (Physical patterns) (Virtual other) h = absurd (cc)
same_number (Virtual name) (Physical others) h = absurd (cc)

pub under_its_number : (tag : List ℕ) (sequence : Sequence) (binding : Binding) → is_of tag sequence binding ≡ true → (whole_number binding == filing_number tag (sequence_number sequence)) ≡ true
under_its_number tag sequence binding h =
    let parts = both_so (has_tag tag binding) (same_sequence binding.sequence sequence) h in
    let is : whole_number binding ≡ filing_number tag (sequence_number sequence) =
    ap (λ t. filing_number t (sequence_number binding.sequence)) ((bytes_eq-Decides binding.tag tag).0 parts.0) ∙ ap (filing_number tag) (same_number binding.sequence sequence parts.1) in
    grind (arith, nat_tests, is)
