-- The steps in which a kept list is made, cut and spliced.
use Rattle.std.proofs.Common.{◌≡◌, ℕ, ◌+◌, ◌-◌, ◌<◌, ◌≤◌, IsUtf8, List, [], ◌∷◌, ◌++◌, append_assoc, append-nil, take, drop, length, map, get_or, arith, ap, sym, subst, ◌∙◌, length-append, length-drop}
use Rattle.std.proofs.lemmas.List.{drop_all, drop_more, take_all, take_more, map-append, take-take, drop-take}
use Rattle.std.proofs.Math.Seq.{take-append_seam, drop-append_seam, get_or-append_seam}
use Rattle.std.proofs.lemmas.Str.{IsCharBoundary-after_ascii, IsCharBoundary-before_ascii, IsCharBoundary-end}
use Rattle.std.specs.Str.{IsCharBoundary}
use Rattle.std.specs.List.{slice_range}
use Rattle.tcl_text.specs.ListCommands.{spliced}
use Rattle.tcl_text.specs.ListForm.{others_form}
use Rattle.tcl_text.specs.ListString.{AreEnds, KeepsList, ends_behind, items_kept}
use Rattle.tcl_text.specs.Readings.{element_form, list_form}
use Rattle.tcl_text.proofs.KeptLists.{ends-drop_first, ends-take, ends_moved, form_behind_blank, forms-cut, forms-part, front_length, kept_items}
use Rattle.tcl_text.proofs.ListFormLemmas.{others_form-append}

-- ── the items are written one after another ──

next_of : {X : Type 0} (items : List X) (i : ℕ) (x : X) → i < length items → x ≡ get_or items i x → drop i items ≡ x ∷ drop (i + 1) items
next_of items i x inside is = drop_more items i x inside ∙ ap (λ y. y ∷ drop (i + 1) items) (sym is)

pub forms_more : (string pushed whole : List ℕ) (items : List (List ℕ)) (i : ℕ) (x : List ℕ) → i < length items → x ≡ get_or items i x
    → string ++ others_form (drop i items) ≡ whole → pushed ≡ (string ++ 32 ∷ []) ++ element_form x → pushed ++ others_form (drop (i + 1) items) ≡ whole
forms_more string pushed whole items i x inside is before is_pushed =
    let rest = others_form (drop (i + 1) items) in
    ap (λ (t : List ℕ). t ++ rest) is_pushed ∙ append_assoc (string ++ 32 ∷ []) (element_form x) rest ∙ append_assoc string (32 ∷ []) (element_form x ++ rest)
    ∙ ap (λ (xs : List (List ℕ)). string ++ others_form xs) (sym (next_of items i x inside is)) ∙ before

pub places_more : (ends pushed whole : List ℕ) (before after end : ℕ) (items : List (List ℕ)) (i : ℕ) (x : List ℕ) → i < length items → x ≡ get_or items i x
    → ends ++ ends_behind before (drop i items) ≡ whole → after ≡ before + 1 + length (element_form x) → end ≡ after → pushed ≡ ends ++ end ∷ [] → pushed ++ ends_behind after (drop (i + 1) items) ≡ whole
places_more ends pushed whole before after end items i x inside is so_far at same is_pushed =
    let rest = drop (i + 1) items in
    ap (λ (t : List ℕ). t ++ ends_behind after rest) (is_pushed ∙ ap (λ (p : ℕ). ends ++ p ∷ []) same) ∙ append_assoc ends (after ∷ []) (ends_behind after rest)
    ∙ ap (λ (p : ℕ). ends ++ (p ∷ ends_behind p rest)) at ∙ ap (λ (xs : List (List ℕ)). ends ++ ends_behind before xs) (sym (next_of items i x inside is)) ∙ so_far

-- too long a string stays too long
pub forms_long : (string pushed whole : List ℕ) (items : List (List ℕ)) (i : ℕ) (x : List ℕ) → i < length items → x ≡ get_or items i x
    → string ++ others_form (drop i items) ≡ whole → pushed ≡ (string ++ 32 ∷ []) ++ element_form x → 65537 < length pushed → 65537 < length whole
forms_long string pushed whole items i x inside is before is_pushed long =
    let rest = others_form (drop (i + 1) items) in
    let all = ap length (forms_more string pushed whole items i x inside is before is_pushed) in
    let sum = length-append pushed rest in
    omega (arith, all, sum)

-- all of them are written
pub forms_done : (string whole : List ℕ) (items : List (List ℕ)) (i : ℕ) → length items ≤ i → string ++ others_form (drop i items) ≡ whole → string ≡ whole
forms_done string whole items i past all = sym (append-nil string) ∙ ap (λ (xs : List (List ℕ)). string ++ others_form xs) (sym (drop_all i items past)) ∙ all

pub places_done : (ends whole : List ℕ) (place : ℕ) (items : List (List ℕ)) (i : ℕ) → length items ≤ i → ends ++ ends_behind place (drop i items) ≡ whole → ends ≡ whole
places_done ends whole place items i past all = sym (append-nil ends) ∙ ap (λ (xs : List (List ℕ)). ends ++ ends_behind place xs) (sym (drop_all i items past)) ∙ all

pub pushed_as : (string pushed shown x : List ℕ) → pushed ≡ (string ++ 32 ∷ []) ++ element_form shown → shown ≡ x → pushed ≡ (string ++ 32 ∷ []) ++ element_form x
pushed_as string pushed shown x is same = is ∙ ap (λ (t : List ℕ). (string ++ 32 ∷ []) ++ element_form t) same

-- how long the string is then
pub pushed_length : (string pushed form : List ℕ) → pushed ≡ (string ++ 32 ∷ []) ++ form → length pushed ≡ length string + 1 + length form
pushed_length string pushed form is =
    let a = length-append (string ++ 32 ∷ []) form in
    let b = length-append string (32 ∷ []) in
    omega (arith, ap length is, a, b)

-- what was read is a kept list
pub KeepsList-made : (string ends : List ℕ) (items : List (List ℕ)) → string ≡ others_form items → ends ≡ ends_behind 0 items → length string ≤ 65537 → KeepsList string ends (items_kept string)
KeepsList-made string ends items forms places short =
    let same = kept_items string items forms in
    record { forms = forms ∙ ap others_form (sym same); places = places ∙ ap (ends_behind 0) (sym same); short = short }

-- of an empty string and no places
pub KeepsList-new : (string ends nothing : List ℕ) (none : List ℕ) (items : List (List ℕ)) → string ≡ nothing ++ others_form items → ends ≡ none ++ ends_behind (length nothing) items
    → nothing ≡ [] → none ≡ [] → length string ≤ 65537 → KeepsList string ends (items_kept string)
KeepsList-new string ends nothing none items forms places empty no_ends short =
    KeepsList-made string ends items (forms ∙ ap (λ (t : List ℕ). t ++ others_form items) empty)
    (places ∙ ap (λ (t : List ℕ). t ++ ends_behind (length nothing) items) no_ends ∙ ap (λ (t : List ℕ). ends_behind (length t) items) empty) short

pub new_items : (string nothing : List ℕ) (items : List (List ℕ)) → string ≡ nothing ++ others_form items → nothing ≡ [] → items_kept string ≡ items
new_items string nothing items forms empty = kept_items string items (forms ∙ ap (λ (t : List ℕ). t ++ others_form items) empty)

-- ── lengths ──

-- too long a string is one of too long a list, and the other way round
pub list_long : (items : List (List ℕ)) → 65537 < length (others_form items) → 65536 < length (list_form items)
list_long items long = let e = ap length (form_behind_blank items) in let d = length-drop 1 (others_form items) in omega (arith, e, d)

long_list : (items : List (List ℕ)) → 65536 < length (list_form items) → 65537 < length (others_form items)
long_list items long = let e = ap length (form_behind_blank items) in let d = length-drop 1 (others_form items) in omega (arith, e, d)

pub new_long : (nothing : List ℕ) (items : List (List ℕ)) → nothing ≡ [] → 65537 < length (nothing ++ others_form items) → 65536 < length (list_form items)
new_long nothing items empty long = list_long items (subst (λ (t : List ℕ). 65537 < length (t ++ others_form items)) empty long)

pub ruleset new_lists = (new_long)

-- the string of a list and of more
pub width-append : (xs ys : List (List ℕ)) → length (others_form (xs ++ ys)) ≡ length (others_form xs) + length (others_form ys)
width-append xs ys = ap length (others_form-append xs ys) ∙ length-append (others_form xs) (others_form ys)

pub append_long : (xs ys : List (List ℕ)) → 65537 < length (others_form xs) + length (others_form ys) → 65536 < length (list_form (xs ++ ys))
append_long xs ys long = let sum = width-append xs ys in list_long (xs ++ ys) (omega (arith, sum))

pub added_long : (held shown more items : List (List ℕ)) → shown ≡ held → more ≡ items → 65537 < length (others_form shown) + length (others_form more) → 65536 < length (list_form (held ++ items))
added_long held shown more items is_held is_items long =
    let a = ap (λ (t : List (List ℕ)). length (others_form t)) is_held in
    let b = ap (λ (t : List (List ℕ)). length (others_form t)) is_items in
    append_long held items (omega (arith, a, b, long))

pub behind_long : (xs ys : List (List ℕ)) → 65536 < length (list_form ys) → 65536 < length (list_form (xs ++ ys))
behind_long xs ys long = let wide = long_list ys long in append_long xs ys (omega (arith, wide))

spliced_width : (items values : List (List ℕ)) (from to : ℕ)
    → length (others_form (spliced items from to values)) ≡ length (others_form (take from items)) + length (others_form values) + length (others_form (drop to items))
spliced_width items values from to =
    let a = width-append (take from items) (values ++ drop to items) in
    let b = width-append values (drop to items) in
    omega (arith, a, b)

pub values_long : (items values : List (List ℕ)) (from to : ℕ) → 65536 < length (list_form values) → 65536 < length (list_form (spliced items from to values))
values_long items values from to long =
    let wide = long_list values long in
    let sum = spliced_width items values from to in
    list_long (spliced items from to values) (omega (arith, wide, sum))

-- ── a list with values in place of a part is what stands before, the values, and what stands behind ──

behind_part : {X : Type 0} (items behind : List X) (to count : ℕ) → count ≡ length items → behind ≡ drop to (take count items) → behind ≡ drop to items
behind_part {X = X} items behind to count all is = is ∙ ap (λ (t : List X). drop to t) (take_all count items (omega arith))

pub spliced_parts : (items values front behind : List (List ℕ)) (from to count : ℕ) → count ≡ length items → front ≡ take from items → behind ≡ drop to (take count items)
    → (front ++ values) ++ behind ≡ spliced items from to values
spliced_parts items values front behind from to count all is_front is_behind =
    let rest = behind_part items behind to count all is_behind in
    append_assoc front values behind ∙ ap (λ (t : List (List ℕ)). t ++ (values ++ behind)) is_front ∙ ap (λ (t : List (List ℕ)). take from items ++ (values ++ t)) rest

pub parts_long : (items values front kept behind : List (List ℕ)) (from to count : ℕ) → count ≡ length items → kept ≡ values → front ≡ take from items → behind ≡ drop to (take count items)
    → 65537 < length (others_form front) + length (others_form kept) + length (others_form behind) → 65536 < length (list_form (spliced items from to values))
parts_long items values front kept behind from to count all is_kept is_front is_behind long =
    let rest = behind_part items behind to count all is_behind in
    let sum = spliced_width items values from to in
    let a = ap (λ (t : List (List ℕ)). length (others_form t)) is_front in
    let b = ap (λ (t : List (List ℕ)). length (others_form t)) rest in
    let d = ap (λ (t : List (List ℕ)). length (others_form t)) is_kept in
    list_long (spliced items from to values) (omega (arith, sum, a, b, d))

pub spliced_done : (items values front kept grown whole behind : List (List ℕ)) (from to count : ℕ) → count ≡ length items → kept ≡ values → front ≡ take from items → behind ≡ drop to (take count items)
    → grown ≡ front ++ kept → whole ≡ grown ++ behind → whole ≡ spliced items from to values
spliced_done items values front kept grown whole behind from to count all is_kept is_front is_behind first second =
    second ∙ ap (λ (t : List (List ℕ)). t ++ behind) (first ∙ ap (λ (t : List (List ℕ)). front ++ t) is_kept) ∙ spliced_parts items values front behind from to count all is_front is_behind

pub room_left : (front kept grown behind : List (List ℕ)) → grown ≡ front ++ kept → length (others_form front) + length (others_form kept) + length (others_form behind) ≤ 65537
    → length (others_form grown) + length (others_form behind) ≤ 65537
room_left front kept grown behind is room = let sum = width-append front kept in let e = ap (λ (t : List (List ℕ)). length (others_form t)) is in omega (arith, room, sum, e)

pub whole_part : (items part : List (List ℕ)) (count : ℕ) → count ≡ length items → part ≡ take count items → part ≡ items
whole_part items part count all is = is ∙ take_all count items (omega arith)

-- ── places are moved ──

pub moved_more : (f : ℕ → ℕ) (ends pushed front others : List ℕ) (i : ℕ) → i < length others → ends ≡ front ++ map f (take i others) → pushed ≡ ends ++ f (get_or others i 0) ∷ []
    → pushed ≡ front ++ map f (take (i + 1) others)
moved_more f ends pushed front others i inside so_far is_pushed =
    let e = get_or others i 0 in
    let cut : take (i + 1) others ≡ take i others ++ e ∷ [] = take_more others i 0 inside in
    is_pushed ∙ ap (λ (t : List ℕ). t ++ f e ∷ []) so_far ∙ append_assoc front (map f (take i others)) (f e ∷ [])
    ∙ ap (λ (t : List ℕ). front ++ t) (sym (ap (map f) cut ∙ map-append f (take i others) (e ∷ [])))

pub moved_done : (from to : ℕ) (ends front others : List ℕ) (i : ℕ) → length others ≤ i → ends ≡ front ++ map (λ e. e - from + to) (take i others)
    → (items : List (List ℕ)) → others ≡ ends_behind from items → ends ≡ front ++ ends_behind to items
moved_done from to ends front others i past so_far items is =
    so_far ∙ ap (λ (t : List ℕ). front ++ map (λ e. e - from + to) t) (take_all i others past ∙ is) ∙ ap (λ (t : List ℕ). front ++ t) (ends_moved from to items)

-- and what was there stays in front
pub front_stays : (front more ends : List ℕ) → ends ≡ front ++ more → take (length front) ends ≡ front
front_stays front more ends is = ap (λ (t : List ℕ). take (length front) t) is ∙ take-append_seam front more

pub same_stays : (front ends : List ℕ) → ends ≡ front → take (length front) ends ≡ front
same_stays front ends is = ap (λ (t : List ℕ). take (length front) t) is ∙ take_all (length front) front (omega arith)

-- ── a part is cut out ──

-- a blank stands before an item's form
blank_here : (string front : List ℕ) (x : List ℕ) (xs : List (List ℕ)) → string ≡ front ++ others_form (x ∷ xs) → (length front < length string) × (get_or string (length front) 0 < 128)
blank_here string front x xs is =
    let long = length-append front (others_form (x ∷ xs)) in
    let blank : get_or string (length front) 0 ≡ 32 = ap (λ (t : List ℕ). get_or t (length front) 0) is ∙ get_or-append_seam front 32 (element_form x ++ others_form xs) 0 in
    (omega (arith, ap length is, long), omega (arith, blank))

-- a place between the items' forms is between characters
boundary : (string front : List ℕ) (items : List (List ℕ)) → string ≡ front ++ others_form items → IsCharBoundary string (length front)
boundary string front [] is =
    let e : length front ≡ length string = sym (ap length (is ∙ append-nil front)) in
    subst (IsCharBoundary string) (sym e) (IsCharBoundary-end string)
boundary string front (x ∷ xs) is =
    let h = blank_here string front x xs is in
    IsCharBoundary-before_ascii string (length front) h.0 h.1

-- and so is the one behind the blank
pub boundary_behind : (string front : List ℕ) (x : List ℕ) (xs : List (List ℕ)) → IsUtf8 string → string ≡ front ++ others_form (x ∷ xs) → IsCharBoundary string (length front + 1)
boundary_behind string front x xs utf8 is =
    let h = blank_here string front x xs is in
    IsCharBoundary-after_ascii string (length front) utf8 h.0 h.1

pub place_boundary : (string : List ℕ) (items : List (List ℕ)) (k : ℕ) → string ≡ others_form items → IsCharBoundary string (length (others_form (take k items)))
place_boundary string items k is = boundary string (others_form (take k items)) (drop k items) (is ∙ forms-cut k items)

-- what lies between two places of a string
between_seams : (string front middle behind : List ℕ) → string ≡ front ++ (middle ++ behind) → slice_range string (length front) (length front + length middle) ≡ middle
between_seams string front middle behind is =
    let n : length front + length middle - length front ≡ length middle = omega arith in
    ap (λ (t : List ℕ). slice_range t (length front) (length front + length middle)) is
    ∙ ap (λ (t : List ℕ). take (length front + length middle - length front) t) (drop-append_seam front (middle ++ behind))
    ∙ ap (λ (k : ℕ). take k (middle ++ behind)) n ∙ take-append_seam middle behind

-- how far the items up to one place are written, by those up to another
pub place_between : (items : List (List ℕ)) (from to : ℕ) → from ≤ to → length (others_form (take to items)) ≡ length (others_form (take from items)) + length (others_form (drop from (take to items)))
place_between items from to order =
    let same : take from (take to items) ≡ take from items = take-take from to items order in
    front_length from (take to items) ∙ ap (λ (xs : List (List ℕ)). length (others_form xs) + length (others_form (drop from (take to items)))) same

pub part_forms : (string : List ℕ) (items : List (List ℕ)) (from to : ℕ) → from ≤ to → string ≡ others_form items
    → slice_range string (length (others_form (take from items))) (length (others_form (take to items))) ≡ others_form (drop from (take to items))
part_forms string items from to order is =
    let front = others_form (take from items) in
    ap (λ (n : ℕ). slice_range string (length front) n) (place_between items from to order)
    ∙ between_seams string front (others_form (drop from (take to items))) (others_form (drop to items)) (is ∙ forms-part items from to order)

-- and where its items end
pub part_places : (ends : List ℕ) (items : List (List ℕ)) (from to : ℕ) → from ≤ to → ends ≡ ends_behind 0 items
    → slice_range ends from to ≡ ends_behind (length (others_form (take from items))) (drop from (take to items))
part_places ends items from to order is =
    let n : from + (to - from) ≡ to = omega arith in
    ap (λ (t : List ℕ). slice_range t from to) is ∙ sym (drop-take from (to - from) (ends_behind 0 items)) ∙ ap (λ (k : ℕ). drop from (take k (ends_behind 0 items))) n
    ∙ ap (λ (t : List ℕ). drop from t) (ends-take 0 to items) ∙ ends-drop_first from (take to items)
    ∙ ap (λ (xs : List (List ℕ)). ends_behind (length (others_form xs)) (drop from (take to items))) (take-take from to items order)

-- what a part is cut from, by the places
pub part_bounds : (string : List ℕ) (items : List (List ℕ)) (from to start end : ℕ) → from ≤ to → string ≡ others_form items
    → start ≡ length (others_form (take from items)) → end ≡ length (others_form (take to items)) → (start ≤ end) × (IsCharBoundary string start × IsCharBoundary string end)
part_bounds string items from to start end order is at_start at_end =
    let between = place_between items from to order in
    rw (at_start, at_end) (omega (arith, between), (place_boundary string items from is, place_boundary string items to is))

pub part_ends : (ends : List ℕ) (items : List (List ℕ)) (from to start end : ℕ) → from ≤ to → ends ≡ ends_behind 0 items
    → start ≡ length (others_form (take from items)) → end ≡ length (others_form (take to items)) → end ≤ 65537 → AreEnds start 0 (slice_range ends from to)
part_ends ends items from to start end order is at_start at_end short =
    let between = place_between items from to order in
    record {
      items = drop from (take to items);
      places = rw at_start (part_places ends items from to order is);
      short = omega (arith, between, at_end, short);
    }

part_string : (string cut whole : List ℕ) (items : List (List ℕ)) (from to start end : ℕ) → from ≤ to → whole ≡ others_form items
    → start ≡ length (others_form (take from items)) → end ≡ length (others_form (take to items)) → cut ≡ slice_range whole start end → string ≡ cut → string ≡ others_form (drop from (take to items))
part_string string cut whole items from to start end order is at_start at_end is_cut copied =
    copied ∙ is_cut ∙ ap (λ (n : ℕ). slice_range whole n end) at_start ∙ ap (λ (n : ℕ). slice_range whole (length (others_form (take from items))) n) at_end ∙ part_forms whole items from to order is

pub part_items : (string cut whole : List ℕ) (items : List (List ℕ)) (from to start end : ℕ) → from ≤ to → whole ≡ others_form items
    → start ≡ length (others_form (take from items)) → end ≡ length (others_form (take to items)) → cut ≡ slice_range whole start end → string ≡ cut → items_kept string ≡ drop from (take to items)
part_items string cut whole items from to start end order is at_start at_end is_cut copied =
    kept_items string (drop from (take to items)) (part_string string cut whole items from to start end order is at_start at_end is_cut copied)

pub part_keeps : (string ends cut none : List ℕ) (whole : List ℕ) (items : List (List ℕ)) (from to start end : ℕ) → from ≤ to → whole ≡ others_form items
    → start ≡ length (others_form (take from items)) → end ≡ length (others_form (take to items)) → end ≤ 65537 → cut ≡ slice_range whole start end → string ≡ cut
    → none ≡ [] → ends ≡ none ++ ends_behind 0 (drop from (take to items)) → KeepsList string ends (items_kept string)
part_keeps string ends cut none whole items from to start end order is at_start at_end short is_cut copied no_ends moved =
    let between = place_between items from to order in
    let forms : string ≡ others_form (drop from (take to items)) = part_string string cut whole items from to start end order is at_start at_end is_cut copied in
    KeepsList-made string ends (drop from (take to items)) forms (moved ∙ ap (λ (t : List ℕ). t ++ ends_behind 0 (drop from (take to items))) no_ends) (omega (arith, ap length forms, between, at_end, short))
