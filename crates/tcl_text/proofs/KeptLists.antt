-- A list as it is kept: its string, and where the forms of its items end.
use Rattle.std.proofs.Common.{◌≡◌, ℕ, zero, suc, ◌+◌, ◌-◌, ◌<◌, ◌≤◌, List, [], ◌∷◌, ◌++◌, append_assoc, take, drop, length, map, get_or, refl, arith, ap, sym, ◌∙◌, length-append}
use Rattle.std.proofs.lemmas.List.{take-append-drop, take-take}
use Rattle.tcl_text.specs.ListForm.{others_form}
use Rattle.tcl_text.specs.ListString.{AreEnds, ends_behind, items_kept, items_read}
use Rattle.tcl_text.specs.Readings.{element_form, list_form}
use Rattle.tcl_text.proofs.ListFormLemmas.{list_form-cons, others_form-append}
use Rattle.tcl_text.proofs.RoundTrip.{list_of-others_form}

-- ── the string ──

-- behind its first blank it is the list's form
pub form_behind_blank : (items : List (List ℕ)) → drop 1 (others_form items) ≡ list_form items
unfolding list_form
form_behind_blank [] = refl
form_behind_blank (x ∷ xs) = sym (list_form-cons x xs)

-- a string of forms is read as their items
pub kept_items : (string : List ℕ) (items : List (List ℕ)) → string ≡ others_form items → items_kept string ≡ items
kept_items string items e = ap items_kept e ∙ ap items_read (list_of-others_form items)

-- the forms of the items in front and of those behind
pub forms-cut : (k : ℕ) (items : List (List ℕ)) → others_form items ≡ others_form (take k items) ++ others_form (drop k items)
forms-cut k items = ap others_form (sym (take-append-drop k items)) ∙ others_form-append (take k items) (drop k items)

-- how much of the string each take
pub front_length : (k : ℕ) (items : List (List ℕ)) → length (others_form items) ≡ length (others_form (take k items)) + length (others_form (drop k items))
front_length k items = ap length (forms-cut k items) ∙ length-append (others_form (take k items)) (others_form (drop k items))

-- ── the places ──

pub ends-length : (place : ℕ) (items : List (List ℕ)) → length (ends_behind place items) ≡ length items
ends-length place [] = refl
ends-length place (x ∷ xs) = ap suc (ends-length (place + 1 + length (element_form x)) xs)

-- one item's form, and those of the others
one_more : (place : ℕ) (x : List ℕ) (xs : List (List ℕ)) → place + length (others_form (x ∷ xs)) ≡ (place + 1 + length (element_form x)) + length (others_form xs)
one_more place x xs = let e = length-append (element_form x) (others_form xs) in omega (arith, e)

pub ends-append : (place : ℕ) (xs ys : List (List ℕ)) → ends_behind place (xs ++ ys) ≡ ends_behind place xs ++ ends_behind (place + length (others_form xs)) ys
ends-append place [] ys = let e : place + 0 ≡ place = omega arith in rw e refl
ends-append place (x ∷ xs) ys =
    let next = place + 1 + length (element_form x) in
    ap (λ (es : List ℕ). next ∷ es) (ends-append next xs ys ∙ ap (λ (p : ℕ). ends_behind next xs ++ ends_behind p ys) (sym (one_more place x xs)))

-- the places are as far behind another place
moved : (from to by : ℕ) (items : List (List ℕ)) → map (λ e. e - from + to) (ends_behind (from + by) items) ≡ ends_behind (to + by) items
moved from to by [] = refl
moved from to by (x ∷ xs) =
    let next = by + 1 + length (element_form x) in
    let a : from + by + 1 + length (element_form x) ≡ from + next = omega arith in
    let b : to + by + 1 + length (element_form x) ≡ to + next = omega arith in
    let here : (from + next) - from + to ≡ to + next = omega arith in
    rw (a, b, here) (ap (λ (es : List ℕ). (to + next) ∷ es) (moved from to next xs))

pub ends_moved : (from to : ℕ) (items : List (List ℕ)) → map (λ e. e - from + to) (ends_behind from items) ≡ ends_behind to items
ends_moved from to items =
    let a : from + 0 ≡ from = omega arith in
    let b : to + 0 ≡ to = omega arith in
    let h = moved from to 0 items in rw (a, b) at h

pub ends-at : (place : ℕ) (items : List (List ℕ)) (k d : ℕ) → k < length items → get_or (ends_behind place items) k d ≡ place + length (others_form (take (suc k) items))
ends-at place [] k d inside = absurd (omega (arith, inside))
ends-at place (x ∷ xs) zero d inside = let e = one_more place x [] in omega (arith, e)
ends-at place (x ∷ xs) (suc k) d inside =
    ends-at (place + 1 + length (element_form x)) xs k d (omega (arith, inside)) ∙ sym (one_more place x (take (suc k) xs))

pub ends-take : (place k : ℕ) (items : List (List ℕ)) → take k (ends_behind place items) ≡ ends_behind place (take k items)
ends-take place zero items = refl
ends-take place (suc k) [] = refl
ends-take place (suc k) (x ∷ xs) = ap (λ (es : List ℕ). (place + 1 + length (element_form x)) ∷ es) (ends-take (place + 1 + length (element_form x)) k xs)

pub ends-drop : (place k : ℕ) (items : List (List ℕ)) → drop k (ends_behind place items) ≡ ends_behind (place + length (others_form (take k items))) (drop k items)
ends-drop place zero items = let e : place + 0 ≡ place = omega arith in rw e refl
ends-drop place (suc k) [] = refl
ends-drop place (suc k) (x ∷ xs) =
    ends-drop (place + 1 + length (element_form x)) k xs ∙ ap (λ (p : ℕ). ends_behind p (drop k xs)) (sym (one_more place x (take k xs)))

-- behind the place 0
from_nothing : (n : ℕ) → 0 + n ≡ n
from_nothing n = omega arith

pub ends-at_first : (items : List (List ℕ)) (k d : ℕ) → k < length items → get_or (ends_behind 0 items) k d ≡ length (others_form (take (suc k) items))
ends-at_first items k d inside = ends-at 0 items k d inside ∙ from_nothing (length (others_form (take (suc k) items)))

pub ends-drop_first : (k : ℕ) (items : List (List ℕ)) → drop k (ends_behind 0 items) ≡ ends_behind (length (others_form (take k items))) (drop k items)
ends-drop_first k items = ends-drop 0 k items ∙ ap (λ (p : ℕ). ends_behind p (drop k items)) (from_nothing (length (others_form (take k items))))

pub ends-append_first : (xs ys : List (List ℕ)) → ends_behind 0 (xs ++ ys) ≡ ends_behind 0 xs ++ ends_behind (length (others_form xs)) ys
ends-append_first xs ys = ends-append 0 xs ys ∙ ap (λ (p : ℕ). ends_behind 0 xs ++ ends_behind p ys) (from_nothing (length (others_form xs)))

-- each lies between the place that they are behind and the end of the string
pub ends_reach : (from to : ℕ) (ends : List ℕ) (k d : ℕ) → AreEnds from to ends → k < length ends → (from ≤ get_or ends k d) × (get_or ends k d - from + to ≤ 65537)
ends_reach from to ends k d h inside =
    let within : k < length h.items = omega (arith, inside, ap length h.places, ends-length from h.items) in
    let at : get_or ends k d ≡ from + length (others_form (take (suc k) h.items)) = ap (λ (es : List ℕ). get_or es k d) h.places ∙ ends-at from h.items k d within in
    let all = front_length (suc k) h.items in
    (omega (arith, at), omega (arith, at, all, h.short))

-- ── parts ──

-- a part of the items lies between those in front of it and those behind it
pub forms-part : (items : List (List ℕ)) (from to : ℕ) → from ≤ to → others_form items ≡ others_form (take from items) ++ (others_form (drop from (take to items)) ++ others_form (drop to items))
forms-part items from to order =
    let same : take from (take to items) ≡ take from items = take-take from to items order in
    forms-cut to items ∙ ap (λ (t : List ℕ). t ++ others_form (drop to items)) (forms-cut from (take to items) ∙ ap (λ (xs : List (List ℕ)). others_form xs ++ others_form (drop from (take to items))) same)
    ∙ append_assoc (others_form (take from items)) (others_form (drop from (take to items))) (others_form (drop to items))
