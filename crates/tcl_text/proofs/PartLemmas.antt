-- Parts of the items of a list, by their indices.
use Rattle.std.proofs.Common.{◌≡◌, ℕ, ◌+◌, ◌<◌, ◌≤◌, min, List, [], ◌∷◌, take, drop, length, refl, sym, ap, subst, ◌∙◌, inl, inr, arith, pos, negsuc}
use Rattle.std.proofs.lemmas.Bool.{cases_lt}
use Rattle.std.proofs.lemmas.List.{length-take, drop_all}
use Rattle.tcl_text.specs.Indices.{before, part, through}
use Rattle.tcl_text.specs.ListCommands.{item_or_empty}
use Rattle.tcl_text.specs.declared.commands.indices.Index.{Index}
use Rattle.tcl_text.specs.declared.commands.indices.Index.TheVariants.{FromStart, FromEnd}

-- the only item of a part from an index to itself
pub through_before : (index : Index) (count : ℕ) → before index count < through index count → through index count ≡ before index count + 1
through_before (FromStart (pos n)) count some = omega arith
through_before (FromStart (negsuc n)) count some = absurd (omega arith)
through_before (FromEnd n) count some = omega arith

pub part_one : (index : Index) (items : List (List ℕ)) (item : List ℕ) → before index (length items) < through index (length items)
    → drop (before index (length items)) (take (before index (length items) + 1) items) ≡ item ∷ [] → item_or_empty (part index index items) ≡ item
part_one index items item some is =
    ap (λ (n : ℕ). item_or_empty (drop (before index (length items)) (take n items))) (through_before index (length items) some) ∙ ap item_or_empty is

-- and of one that has none
pub part_none : (index : Index) (items : List (List ℕ)) → through index (length items) ≤ before index (length items) → item_or_empty (part index index items) ≡ []
part_none index items none =
    ap item_or_empty (drop_all (before index (length items)) (take (through index (length items)) items) (omega (arith, length-take (through index (length items)) items)))

-- a part cut behind its start, or at its end
pub part_start : {X : Type 0} (start end : ℕ) (xs : List X) → drop (min start end) (take end xs) ≡ drop start (take end xs)
part_start start end xs = elim (cases_lt start end) [
  | inl before ↦ let m : min start end ≡ start = omega arith in rw m refl
  | inr past ↦
      let m : min start end ≡ end = omega arith in
      let l = length-take end xs in
      rw m (drop_all end (take end xs) (omega (arith, l)) ∙ sym (drop_all start (take end xs) (omega (arith, l))))
]

-- the last index is within the items
pub through_within : (index : Index) (count : ℕ) → through index count ≤ count
through_within (FromStart (pos n)) count = omega arith
through_within (FromStart (negsuc n)) count = omega arith
through_within (FromEnd n) count = omega arith

-- the same by the numbers that were found
pub part_found : (index : Index) (items : List (List ℕ)) (item : List ℕ) (number end count : ℕ) → count ≡ length items → number ≡ before index count → end ≡ through index count
    → number < end → drop number (take (number + 1) items) ≡ item ∷ [] → item_or_empty (part index index items) ≡ item
part_found index items item number end count counted at till inside is =
    let here : number ≡ before index (length items) = at ∙ ap (before index) counted in
    let there : end ≡ through index (length items) = till ∙ ap (through index) counted in
    part_one index items item (omega (arith, here, there)) (subst (λ (n : ℕ). drop n (take (n + 1) items) ≡ item ∷ []) here is)

pub part_missing : (index : Index) (items : List (List ℕ)) (number end count : ℕ) → count ≡ length items → number ≡ before index count → end ≡ through index count
    → end ≤ number → item_or_empty (part index index items) ≡ []
part_missing index items number end count counted at till past =
    let here : number ≡ before index (length items) = at ∙ ap (before index) counted in
    let there : end ≡ through index (length items) = till ∙ ap (through index) counted in
    part_none index items (omega (arith, here, there))

pub part_kept : (first last : Index) (items kept : List (List ℕ)) (begin start end count : ℕ) → count ≡ length items → begin ≡ before first count → end ≡ through last count
    → start ≡ min begin end → kept ≡ drop start (take end items) → kept ≡ part first last items
part_kept first last items kept begin start end count counted at till cut is =
    is ∙ ap (λ (n : ℕ). drop n (take end items)) cut ∙ part_start begin end items
    ∙ ap (λ (n : ℕ). drop n (take end items)) (at ∙ ap (before first) counted) ∙ ap (λ (n : ℕ). drop (before first (length items)) (take n items)) (till ∙ ap (through last) counted)
