-- Several lists of stamps as one that rises: those of the numbers of several names.
use Rattle.std.proofs.Common.{Ordering, Less, Equal, Greater, ◌≡◌, ℕ, ◌<◌, ◌==◌, ◌||◌, Bool, true, false, cond, List, [], ◌∷◌, refl, sym, ap, ◌∙◌, arith, length, drop, get_or, ◌+◌, Option, Some, None}
use Rattle.std.specs.BTreeSet.{insert_key}
use Rattle.std.specs.Ordering.{nat_cmp, match_ordering}
use Rattle.std.proofs.lemmas.Cmp.{ranked}
use Rattle.std.proofs.lemmas.List.{at_drop_more}
use Rattle.std.proofs.lemmas.Slice.Eq.{bytes_eq-Decides}
use Rattle.tk_patterns.specs.declared.filed.Filed.{Filed}
use Rattle.tk_patterns.specs.declared.filed.Numbers.{Numbers}
use Rattle.tk_patterns.specs.Filed.{stamps_of, AllAbove, IsRising}
use Rattle.tk_patterns.specs.Filing.{name_number, is_named, with_stamps, all_named, is_repeat, without_repeats}
use Rattle.tk_virtual.specs.declared.pair.Pair.{Pair}

-- ── numbers in order ──
above_is : (first stamp : ℕ) → first < stamp → nat_cmp stamp first ≡ Greater
above_is first stamp less = by (nat_cmp stamp first) refl
  where
    by : (o : Ordering) → nat_cmp stamp first ≡ o → o ≡ Greater
    by Less is = absurd (let low : stamp < first = ranked stamp first Less (sym is) in omega (arith, low, less))
    by Equal is = absurd (let same : stamp ≡ first = ranked stamp first Equal (sym is) in omega (arith, same, less))
    by Greater is = refl

below_is : (first stamp : ℕ) → stamp < first → nat_cmp stamp first ≡ Less
below_is first stamp less = by (nat_cmp stamp first) refl
  where
    by : (o : Ordering) → nat_cmp stamp first ≡ o → o ≡ Less
    by Less is = refl
    by Equal is = absurd (let same : stamp ≡ first = ranked stamp first Equal (sym is) in omega (arith, same, less))
    by Greater is = absurd (let high : first < stamp = ranked stamp first Greater (sym is) in omega (arith, high, less))

same_is : (stamp : ℕ) → nat_cmp stamp stamp ≡ Equal
same_is stamp = by (nat_cmp stamp stamp) refl
  where
    by : (o : Ordering) → nat_cmp stamp stamp ≡ o → o ≡ Equal
    by Less is = absurd (let low : stamp < stamp = ranked stamp stamp Less (sym is) in omega (arith, low))
    by Equal is = refl
    by Greater is = absurd (let high : stamp < stamp = ranked stamp stamp Greater (sym is) in omega (arith, high))

-- ── stamps that are put among those above one ──
abbrev AllOver : ℕ → List ℕ → Type 0
AllOver stamp [] = Unit {0}
AllOver stamp (x ∷ xs) = (stamp < x) × AllOver stamp xs

over_by : (t : Bool) (stamp first : ℕ) (xs : List ℕ) → stamp < first → AllOver stamp xs → AllOver stamp (cond t (first ∷ xs) xs)
over_by true stamp first xs less over = (less, over)
over_by false stamp first xs less over = over

all_over : (stamp : ℕ) (sought : Numbers → Bool) (list : List Filed) → AllAbove stamp list → AllOver stamp (stamps_of sought list)
all_over stamp sought [] above = tt
all_over stamp sought (filed ∷ list) above = over_by (sought filed.numbers) stamp filed.stamp (stamps_of sought list) above.0 (all_over stamp sought list above.1)

put_first : (first : ℕ) (xs : List ℕ) → AllOver first xs → insert_key nat_cmp xs first ≡ first ∷ xs
put_first first [] over = refl
put_first first (x ∷ xs) over = ap (λ o. match_ordering o (first ∷ x ∷ xs) (x ∷ xs) (x ∷ insert_key nat_cmp xs first)) (below_is x first over.0)

put_again : (first : ℕ) (xs : List ℕ) → insert_key nat_cmp (first ∷ xs) first ≡ first ∷ xs
put_again first xs = ap (λ o. match_ordering o (first ∷ first ∷ xs) (first ∷ xs) (first ∷ insert_key nat_cmp xs first)) (same_is first)

put_above : (first : ℕ) (xs ys : List ℕ) → AllOver first ys → with_stamps (first ∷ xs) ys ≡ first ∷ with_stamps xs ys
put_above first xs [] over = refl
put_above first xs (y ∷ ys) over =
    ap (λ o. with_stamps (match_ordering o (y ∷ first ∷ xs) (first ∷ xs) (first ∷ insert_key nat_cmp xs y)) ys) (above_is first y over.0)
    ∙ put_above first (insert_key nat_cmp xs y) ys over.1

-- ── those that one or the other seeks ──
both : (p q : Numbers → Bool) (list : List Filed) → IsRising list → with_stamps (stamps_of p list) (stamps_of q list) ≡ stamps_of (λ n. p n || q n) list
both p q [] rising = refl
both p q (filed ∷ list) rising = by (p filed.numbers) (q filed.numbers) (all_over filed.stamp p list rising.0) (all_over filed.stamp q list rising.0) (both p q list rising.1)
  where
    by : (s t : Bool) → AllOver filed.stamp (stamps_of p list) → AllOver filed.stamp (stamps_of q list) → with_stamps (stamps_of p list) (stamps_of q list) ≡ stamps_of (λ n. p n || q n) list
        → with_stamps (cond s (filed.stamp ∷ stamps_of p list) (stamps_of p list)) (cond t (filed.stamp ∷ stamps_of q list) (stamps_of q list))
        ≡ cond (s || t) (filed.stamp ∷ stamps_of (λ n. p n || q n) list) (stamps_of (λ n. p n || q n) list)
    by true true first second rest =
        ap (λ keys. with_stamps keys (stamps_of q list)) (put_again filed.stamp (stamps_of p list))
        ∙ put_above filed.stamp (stamps_of p list) (stamps_of q list) second
        ∙ ap (λ stamps. filed.stamp ∷ stamps) rest
    by true false first second rest = put_above filed.stamp (stamps_of p list) (stamps_of q list) second ∙ ap (λ stamps. filed.stamp ∷ stamps) rest
    by false true first second rest =
        ap (λ keys. with_stamps keys (stamps_of q list)) (put_first filed.stamp (stamps_of p list) first)
        ∙ put_above filed.stamp (stamps_of p list) (stamps_of q list) second
        ∙ ap (λ stamps. filed.stamp ∷ stamps) rest
    by false false first second rest = rest

same_sought : (p q : Numbers → Bool) → ((n : Numbers) → p n ≡ q n) → (list : List Filed) → stamps_of p list ≡ stamps_of q list
same_sought p q same [] = refl
same_sought p q same (filed ∷ list) =
    ap (λ t. cond t (filed.stamp ∷ stamps_of p list) (stamps_of p list)) (same filed.numbers)
    ∙ ap (λ stamps. cond (q filed.numbers) (filed.stamp ∷ stamps) stamps) (same_sought p q same list)

or_none : (t : Bool) → t ≡ (t || false)
or_none true = refl
or_none false = refl

or_later : (a b c : Bool) → ((a || b) || c) ≡ (a || (b || c))
or_later true b c = refl
or_later false b c = refl

-- those of all the names of some pairs are added
pub names_added : (tag : List ℕ) (list : List Filed) (sought : Numbers → Bool) (pairs : List Pair) → IsRising list
    → all_named tag list (stamps_of sought list) pairs ≡ stamps_of (λ n. sought n || is_named tag pairs n.whole) list
names_added tag list sought [] rising = same_sought sought (λ n. sought n || false) (λ n. or_none (sought n)) list
names_added tag list sought (pair ∷ pairs) rising =
    ap (λ keys. all_named tag list keys pairs) (both sought (λ n. n.whole == name_number tag pair.name) list rising)
    ∙ names_added tag list (λ n. sought n || (n.whole == name_number tag pair.name)) pairs rising
    ∙ same_sought (λ n. (sought n || (n.whole == name_number tag pair.name)) || is_named tag pairs n.whole) (λ n. sought n || ((n.whole == name_number tag pair.name) || is_named tag pairs n.whole))
    (λ n. or_later (sought n) (n.whole == name_number tag pair.name) (is_named tag pairs n.whole)) list

-- ── a pair whose name came last adds nothing ──
repeat_at : (last : Option (List ℕ)) (pairs : List Pair) (i : ℕ) (pair : Pair) → i < length pairs → pair ≡ get_or pairs i pair
    → without_repeats last (drop i pairs) ≡ cond (is_repeat last pair) (without_repeats last (drop (i + 1) pairs)) (pair ∷ without_repeats (Some pair.name) (drop (i + 1) pairs))
repeat_at last pairs i pair below is = at_drop_more (without_repeats last) pairs i pair below ∙ ap (λ p. without_repeats last (p ∷ drop (i + 1) pairs)) (sym is)

pub repeat_past : (last : Option (List ℕ)) (pairs : List Pair) (i : ℕ) (pair : Pair) → i < length pairs → pair ≡ get_or pairs i pair → is_repeat last pair ≡ true
    → without_repeats last (drop i pairs) ≡ without_repeats last (drop (i + 1) pairs)
repeat_past last pairs i pair below is again =
    repeat_at last pairs i pair below is
    ∙ ap (λ t. cond t (without_repeats last (drop (i + 1) pairs)) (pair ∷ without_repeats (Some pair.name) (drop (i + 1) pairs))) again

pub repeat_more : (last : Option (List ℕ)) (pairs : List Pair) (i : ℕ) (pair : Pair) → i < length pairs → pair ≡ get_or pairs i pair → is_repeat last pair ≡ false
    → without_repeats last (drop i pairs) ≡ pair ∷ without_repeats (Some pair.name) (drop (i + 1) pairs)
repeat_more last pairs i pair below is other =
    repeat_at last pairs i pair below is
    ∙ ap (λ t. cond t (without_repeats last (drop (i + 1) pairs)) (pair ∷ without_repeats (Some pair.name) (drop (i + 1) pairs))) other

module _ (tag : List ℕ) (number : ℕ) where
  abbrev of_last : Option (List ℕ) → Bool
  of_last None = false
  of_last (Some name) = number == name_number tag name

  twice : (a b : Bool) → (a || b) ≡ (a || (a || b))
  twice true b = refl
  twice false b = refl

  of_repeat : (last : Option (List ℕ)) (pair : Pair) → is_repeat last pair ≡ true → of_last last ≡ (number == name_number tag pair.name)
  of_repeat None pair h = absurd (cc)
  of_repeat (Some name) pair h = ap (λ n. number == name_number tag n) (sym ((bytes_eq-Decides pair.name name).0 h))

  names_stay : (last : Option (List ℕ)) (pairs : List Pair) → (of_last last || is_named tag (without_repeats last pairs) number) ≡ (of_last last || is_named tag pairs number)
  names_stay last [] = refl
  names_stay last (pair ∷ pairs) = by (is_repeat last pair) refl (names_stay last pairs) (names_stay (Some pair.name) pairs)
    where
      by : (t : Bool) → is_repeat last pair ≡ t → (of_last last || is_named tag (without_repeats last pairs) number) ≡ (of_last last || is_named tag pairs number)
          → ((number == name_number tag pair.name) || is_named tag (without_repeats (Some pair.name) pairs) number) ≡ ((number == name_number tag pair.name) || is_named tag pairs number)
          → (of_last last || is_named tag (cond t (without_repeats last pairs) (pair ∷ without_repeats (Some pair.name) pairs)) number) ≡ (of_last last || ((number == name_number tag pair.name) || is_named tag pairs number))
      by true again rest own = rest ∙ twice (of_last last) (is_named tag pairs number) ∙ ap (λ t. of_last last || (t || is_named tag pairs number)) (of_repeat last pair again)
      by false other rest own = ap (λ t. of_last last || t) own

-- and those of the pairs of three classes, one after another
pub names_of_three : (tag : List ℕ) (list : List Filed) (first second third : List Pair) → IsRising list
    → all_named tag list (all_named tag list (all_named tag list [] (without_repeats None first)) (without_repeats None second)) (without_repeats None third)
    ≡ stamps_of (λ n. (is_named tag first n.whole || is_named tag second n.whole) || is_named tag third n.whole) list
names_of_three tag list first second third rising =
    ap (λ keys. all_named tag list (all_named tag list (all_named tag list keys (without_repeats None first)) (without_repeats None second)) (without_repeats None third)) (sym (nothing list))
    ∙ ap (λ keys. all_named tag list (all_named tag list keys (without_repeats None second)) (without_repeats None third)) (added (λ n. false) first)
    ∙ ap (λ keys. all_named tag list keys (without_repeats None third)) (added (λ n. is_named tag first n.whole) second)
    ∙ added (λ n. is_named tag first n.whole || is_named tag second n.whole) third
  where
    nothing : (list : List Filed) → stamps_of (λ n. false) list ≡ []
    nothing [] = refl
    nothing (filed ∷ list) = nothing list

    added : (sought : Numbers → Bool) (pairs : List Pair) → all_named tag list (stamps_of sought list) (without_repeats None pairs) ≡ stamps_of (λ n. sought n || is_named tag pairs n.whole) list
    added sought pairs =
        names_added tag list sought (without_repeats None pairs) rising
        ∙ same_sought (λ n. sought n || is_named tag (without_repeats None pairs) n.whole) (λ n. sought n || is_named tag pairs n.whole) (λ n. ap (λ t. sought n || t) (names_stay tag n.whole None pairs)) list
