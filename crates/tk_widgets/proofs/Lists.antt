-- The list of items, and of those that are left of them.
use Rattle.std.proofs.Common.{◌≡◌, ℕ, zero, suc, ◌+◌, ◌-◌, ◌<◌, ◌≤◌, Bool, true, false, cond, leb, List, [], ◌∷◌, ◌++◌, length, take, drop, max, Ok, Err, refl, ap, ◌∙◌, arith, length-append}
use Rattle.std.proofs.lemmas.Bool.Decides.{nat_tests}
use Rattle.tcl_text.specs.Edit.{with_more, within_limit, written_anew}
use Rattle.tcl_text.specs.ListForm.{others_form}
use Rattle.tcl_text.specs.Readings.{element_form, list_form, list_of}
use Rattle.tcl_text.specs.declared.fault.EditFault.{EditFault}
use Rattle.tcl_text.specs.declared.fault.EditFault.TheVariants.{TooLong}
use Rattle.tcl_text.proofs.ListFormLemmas.{list_form-cons}
use Rattle.tcl_text.proofs.RoundTrip.{list_of-list_form}
use Rattle.tk_widgets.specs.Items.{texts, new_items}
use Rattle.tk_widgets.specs.declared.items.Item.{Item}

-- ---- how long lists are

length-others : (x : List ℕ) (xs : List (List ℕ)) → length (others_form (x ∷ xs)) ≡ length (element_form x) + length (others_form xs) + 1
length-others x xs = let e = length-append (element_form x) (others_form xs) in grind arith

take_none : (n : ℕ) → take {A = List ℕ} n [] ≡ []
take_none zero = refl
take_none (suc n) = refl

drop_none : (n : ℕ) → drop {A = List ℕ} n [] ≡ []
drop_none zero = refl
drop_none (suc n) = refl

others_left : (xs : List (List ℕ)) (n : ℕ) → length (others_form (drop n xs)) ≤ length (others_form xs)
others_left [] n = omega (arith, ap (λ (xs : List (List ℕ)). length (others_form xs)) (drop_none n))
others_left (x ∷ xs) zero = omega arith
others_left (x ∷ xs) (suc n) = omega (arith, others_left xs n, length-others x xs)

others_without : (xs : List (List ℕ)) (from to : ℕ) → from ≤ to → length (others_form (take from xs ++ drop to xs)) ≤ length (others_form xs)
others_without [] from to le =
    omega (arith, ap (λ (xs : List (List ℕ)). length (others_form (xs ++ drop to []))) (take_none from), ap (λ (xs : List (List ℕ)). length (others_form xs)) (drop_none to))
others_without (x ∷ xs) zero to le = others_left (x ∷ xs) to
others_without (x ∷ xs) (suc from) zero le = absurd (omega arith)
others_without (x ∷ xs) (suc from) (suc to) le =
    omega (arith, others_without xs from to (omega arith), length-others x xs, length-others x (take from xs ++ drop to xs))

-- the list is as long as its elements with a blank before each, but for the first blank
length-list_form : (xs : List (List ℕ)) → length (list_form xs) ≡ length (others_form xs) - 1
unfolding list_form
length-list_form [] = refl
length-list_form (x ∷ xs) =
    ap length (list_form-cons x xs) ∙ length-append (element_form x) (others_form xs) ∙ omega (arith, length-others x xs)

texts-take : (n : ℕ) (items : List Item) → texts (take n items) ≡ take n (texts items)
texts-take zero [] = refl
texts-take (suc n) [] = refl
texts-take zero (item ∷ items) = refl
texts-take (suc n) (item ∷ items) = ap (λ (xs : List (List ℕ)). item.text ∷ xs) (texts-take n items)

texts-drop : (n : ℕ) (items : List Item) → texts (drop n items) ≡ drop n (texts items)
texts-drop zero [] = refl
texts-drop (suc n) [] = refl
texts-drop zero (item ∷ items) = refl
texts-drop (suc n) (item ∷ items) = texts-drop n items

texts-append : (items others : List Item) → texts (items ++ others) ≡ texts items ++ texts others
texts-append [] others = refl
texts-append (item ∷ items) others = ap (λ (xs : List (List ℕ)). item.text ∷ xs) (texts-append items others)

texts-new : (new : List (List ℕ)) → texts (new_items new) ≡ new
texts-new [] = refl
texts-new (text ∷ new) = ap (λ (xs : List (List ℕ)). text ∷ xs) (texts-new new)

-- the list of those that are left is no longer
pub rest_short : (items : List Item) (from to : ℕ) → length (list_form (texts items)) ≤ 65536
    → length (list_form (texts (take from items ++ drop (max from to) items))) ≤ 65536
rest_short items from to le =
    let same : texts (take from items ++ drop (max from to) items) ≡ take from (texts items) ++ drop (max from to) (texts items) =
    texts-append (take from items) (drop (max from to) items)
    ∙ ap (λ (xs : List (List ℕ)). xs ++ texts (drop (max from to) items)) (texts-take from items)
    ∙ ap (λ (xs : List (List ℕ)). take from (texts items) ++ xs) (texts-drop (max from to) items) in
    let shorter = others_without (texts items) from (max from to) (omega arith) in
    let whole = length-list_form (texts items) in
    let rest = ap (λ (xs : List (List ℕ)). length (list_form xs)) same ∙ length-list_form (take from (texts items) ++ drop (max from to) (texts items)) in
    omega (arith, shorter, whole, rest, le)

-- ---- more elements

pub texts-more : (items : List Item) (new : List (List ℕ)) → texts (items ++ new_items new) ≡ texts items ++ new
texts-more items new = texts-append items (new_items new) ∙ ap (λ (xs : List (List ℕ)). texts items ++ xs) (texts-new new)

-- a list that is read and written with more
pub read_again : (old : List ℕ) (all more : List (List ℕ)) → old ≡ list_form all → written_anew (with_more more (list_of old)) ≡ within_limit (list_form (all ++ more))
read_again old all more is = ap (λ (text : List ℕ). written_anew (with_more more (list_of text))) is ∙ ap (λ read. written_anew (with_more more read)) (list_of-list_form all)

-- a text within the limit is as it is, and one past it is refused
pub within_is : (text now : List ℕ) → within_limit text ≡ Ok now → (now ≡ text) × (length text ≤ 65536)
unfolding within_limit
within_is text now is = by (leb (length text) 65536) refl is
  where
    by : (b : Bool) → leb (length text) 65536 ≡ b → cond b (Ok text) (Err TooLong) ≡ Ok now → (now ≡ text) × (length text ≤ 65536)
    by true lt is = (cc, grind (arith, nat_tests))
    by false lt is = absurd (cc)

pub beyond_is : (text : List ℕ) (fault : EditFault) → within_limit text ≡ Err fault → 65536 < length text
unfolding within_limit
beyond_is text fault is = by (leb (length text) 65536) refl is
  where
    by : (b : Bool) → leb (length text) 65536 ≡ b → cond b (Ok text) (Err TooLong) ≡ Err fault → 65536 < length text
    by true lt is = absurd (cc)
    by false lt is = grind (arith, nat_tests)
