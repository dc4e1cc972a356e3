-- What an item of a kept list is.
use Rattle.std.proofs.Common.{◌≡◌, ℕ, zero, suc, ◌+◌, ◌-◌, ◌<◌, ◌≤◌, false, not, IsUtf8, List, [], ◌∷◌, ◌++◌, append-nil, take, drop, length, nat_eq, get_or, Result, Ok, Err, refl, arith, ap, sym, subst, ◌∙◌, inl, inr}
use Rattle.std.specs.List.{list_all, slice_range}
use Rattle.std.proofs.lemmas.Bool.{cases_Bool, and_parts, or_parts, not-true}
use Rattle.std.proofs.lemmas.List.{drop_more, drop-drop, drop-take}
use Rattle.std.proofs.Math.Seq.{take-nil}
use Rattle.tcl_text.specs.Backslash.{is_white}
use Rattle.tcl_text.specs.ListForm.{others_form}
use Rattle.tcl_text.specs.Readings.{begins_comment, can_be_bare, can_be_braced, element_form, is_special, list_form, list_of, with_backslashes}
use Rattle.std.specs.Str.{IsCharBoundary}
use Rattle.tcl_text.specs.Splitting.{items_before}
use Rattle.tcl_text.proofs.KeptLists.{forms-cut}
use Rattle.tcl_text.proofs.KeptSteps.{boundary_behind, part_forms, place_between, place_boundary}
use Rattle.tcl_text.proofs.RoundTrip.{list_of-list_form}
use Rattle.tcl_text.specs.declared.fault.ListFault.{ListFault}

-- ── an item ──

-- the form of an item begins with a byte that isn't white space
pub record Begins (form : List ℕ) : Type 0 where
  pub some : 0 < length form
  pub black : is_white (get_or form 0 0) ≡ false

plain_begins : (c : ℕ) (cs : List ℕ) → is_special c ≡ false → Begins (c ∷ cs)
plain_begins c cs plain = record { some = omega arith; black = (or_parts (is_white c) _ plain).0 }

backslashed_begins : (c : ℕ) (cs : List ℕ) → Begins (with_backslashes (c ∷ cs))
backslashed_begins c cs = elim (cases_Bool (is_special c)) [
  | inl special ↦ rw special (record { some = omega arith; black = refl })
  | inr plain ↦ rw plain (plain_begins c (with_backslashes cs) plain)
]

form_begins : (item : List ℕ) → Begins (element_form item)
form_begins [] = record { some = omega arith; black = refl }
form_begins (c ∷ cs) = elim (cases_Bool (can_be_bare (c ∷ cs))) [
  | inl can ↦ rw can (
      let all = and_parts (not (begins_comment (c ∷ cs))) (list_all (λ c. not (is_special c)) (c ∷ cs)) can in
      let here = and_parts (not (is_special c)) (list_all (λ c. not (is_special c)) cs) all.1 in
      plain_begins c cs (not-true (is_special c) here.0))
  | inr not_bare ↦ rw not_bare (elim (cases_Bool (can_be_braced (c ∷ cs))) [
    | inl can ↦ rw can (record { some = omega arith; black = refl })
    | inr not_braced ↦ rw not_braced (elim (cases_Bool (nat_eq c 35)) [
      | inl comment ↦ rw comment (record { some = omega arith; black = refl })
      | inr other ↦ rw other (backslashed_begins c cs)
    ])
  ])
]

-- the items up to the next of a list, and that item
pub one_item : (items : List (List ℕ)) (k : ℕ) → k < length items → drop k (take (k + 1) items) ≡ get_or items k [] ∷ []
one_item items k inside =
    drop-take k 1 items ∙ ap (λ (xs : List (List ℕ)). take 1 xs) (drop_more items k [] inside)

-- it is written between its place, behind the blank, and the next place
pub item_form : (string : List ℕ) (items : List (List ℕ)) (k : ℕ) → k < length items → string ≡ others_form items
    → slice_range string (length (others_form (take k items)) + 1) (length (others_form (take (k + 1) items))) ≡ element_form (get_or items k [])
item_form string items k inside is =
    let from = length (others_form (take k items)) in
    let to = length (others_form (take (k + 1) items)) in
    let x = get_or items k [] in
    let order : k ≤ k + 1 = omega arith in
    let with_blank : slice_range string from to ≡ 32 ∷ (element_form x ++ []) = part_forms string items k (k + 1) order is ∙ ap others_form (one_item items k inside) in
    let less : to - (from + 1) ≡ (to - from) - 1 = omega arith in
    let behind : drop (from + 1) string ≡ drop 1 (drop from string) = sym (drop-drop 1 from string) in
    ap (λ (n : ℕ). take n (drop (from + 1) string)) less ∙ ap (λ (t : List ℕ). take ((to - from) - 1) t) behind
    ∙ take_less (to - from) (drop from string) ∙ ap (λ (t : List ℕ). drop 1 t) with_blank ∙ append-nil (element_form x)
  where
    take_less : (n : ℕ) (xs : List ℕ) → take (n - 1) (drop 1 xs) ≡ drop 1 (take n xs)
    take_less zero xs = refl
    take_less (suc n) [] = let e : suc n - 1 ≡ n = omega arith in rw e (take-nil n)
    take_less (suc n) (x ∷ xs) = let e : suc n - 1 ≡ n = omega arith in rw e refl

-- where it is cut
pub form_bounds : (string : List ℕ) (items : List (List ℕ)) (k start end : ℕ) → IsUtf8 string → k < length items → string ≡ others_form items
    → start ≡ length (others_form (take k items)) → end ≡ length (others_form (take (k + 1) items))
    → (start + 1 ≤ end) × (IsCharBoundary string (start + 1) × IsCharBoundary string end)
form_bounds string items k start end utf8 inside is at_start at_end =
    let x = get_or items k [] in
    let rest = drop (k + 1) items in
    let front = others_form (take k items) in
    let cut : string ≡ front ++ others_form (x ∷ rest) = is ∙ forms-cut k items ∙ ap (λ (xs : List (List ℕ)). front ++ others_form xs) (drop_more items k [] inside) in
    let order : k ≤ k + 1 = omega arith in
    let step = place_between items k (k + 1) order in
    let one : length (others_form (drop k (take (k + 1) items))) ≡ suc (length (element_form x ++ [])) = ap (λ (xs : List (List ℕ)). length (others_form xs)) (one_item items k inside) in
    rw (at_start, at_end) (omega (arith, step, one), (boundary_behind string front x rest utf8 cut, place_boundary string items (k + 1) is))

pub form_cut : (string : List ℕ) (items : List (List ℕ)) (k start end : ℕ) → k < length items → string ≡ others_form items
    → start ≡ length (others_form (take k items)) → end ≡ length (others_form (take (k + 1) items)) → slice_range string (start + 1) end ≡ element_form (get_or items k [])
form_cut string items k start end inside is at_start at_end =
    ap (λ (n : ℕ). slice_range string (n + 1) end) at_start ∙ ap (λ (n : ℕ). slice_range string (length (others_form (take k items)) + 1) n) at_end ∙ item_form string items k inside is

pub begun : (form x : List ℕ) → form ≡ element_form x → Begins form
begun form x is = subst Begins (sym is) (form_begins x)

-- an item's form is read as the item
alone_item : (told x : List ℕ) (others : Result (List (List ℕ)) ListFault) → items_before (told ∷ []) others ≡ Ok (x ∷ []) → told ≡ x
alone_item told x (Ok items) e = cc
alone_item told x (Err fault) e = cc

pub told_item : (form told : List ℕ) (others : Result (List (List ℕ)) ListFault) (items : List (List ℕ)) (k : ℕ) → k < length items → form ≡ element_form (get_or items k [])
    → list_of form ≡ items_before (told ∷ []) others → drop k (take (k + 1) items) ≡ told ∷ []
unfolding list_form
told_item form told others items k inside is gives =
    let x = get_or items k [] in
    one_item items k inside ∙ ap (λ (t : List ℕ). t ∷ []) (sym (alone_item told x others (sym gives ∙ ap list_of is ∙ list_of-list_form (x ∷ []))))
