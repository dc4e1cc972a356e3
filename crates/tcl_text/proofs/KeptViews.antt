-- What is seen of a kept list: its form, its places.
use Rattle.std.proofs.Common.{◌≡◌, ℕ, zero, suc, ◌-◌, ◌<◌, ◌≤◌, List, [], ◌∷◌, take, drop, length, get_or, IsUtf8, arith, ap, subst, ◌∙◌, length-append, length-drop}
use Rattle.std.specs.Str.{IsCharBoundary}
use Rattle.std.proofs.lemmas.Str.{IsCharBoundary-after_ascii}
use Rattle.tcl_text.specs.ListForm.{others_form}
use Rattle.tcl_text.specs.ListString.{KeepsList}
use Rattle.tcl_text.specs.Readings.{element_form, list_form}
use Rattle.tcl_text.proofs.KeptLists.{ends-at_first, ends-length, form_behind_blank, front_length}

-- what is known of the fields, by the value that is seen
pub kept : (string ends : List ℕ) (items seen : List (List ℕ)) → KeepsList string ends items → items ≡ seen → KeepsList string ends seen
kept string ends items seen h is = subst (KeepsList string ends) is h

-- the string begins with a blank, if it isn't empty
first_blank : (string : List ℕ) (items : List (List ℕ)) → string ≡ others_form items → 0 < length string → get_or string 0 0 ≡ 32
first_blank string [] is some = absurd (omega (arith, ap length is))
first_blank string (x ∷ xs) is some = ap (λ (t : List ℕ). get_or t 0 0) is

pub behind_blank : (string ends : List ℕ) (seen : List (List ℕ)) → KeepsList string ends seen → IsUtf8 string → 0 < length string → IsCharBoundary string 1
behind_blank string ends seen h utf8 some = let blank = first_blank string seen h.forms some in IsCharBoundary-after_ascii string 0 utf8 some (omega (arith, blank))

pub seen_form : (string ends : List ℕ) (seen : List (List ℕ)) → KeepsList string ends seen → drop 1 string ≡ list_form seen
seen_form string ends seen h = ap (λ (t : List ℕ). drop 1 t) h.forms ∙ form_behind_blank seen

pub seen_nothing : (string ends : List ℕ) (seen : List (List ℕ)) → KeepsList string ends seen → length string ≡ 0 → string ≡ list_form seen
seen_nothing [] ends seen h none = seen_form [] ends seen h
seen_nothing (c ∷ cs) ends seen h none = absurd (omega (arith, none))

pub seen_short : (string ends : List ℕ) (seen : List (List ℕ)) → KeepsList string ends seen → length (list_form seen) ≤ 65536
seen_short string ends seen h = let a = length-drop 1 string in omega (arith, h.short, a, ap length (seen_form string ends seen h))

pub seen_count : (string ends : List ℕ) (seen : List (List ℕ)) → KeepsList string ends seen → length ends ≡ length seen
seen_count string ends seen h = ap length h.places ∙ ends-length 0 seen

-- the place of the first item, and of each behind an end
pub place_behind : (string ends : List ℕ) (seen : List (List ℕ)) (number d : ℕ) → KeepsList string ends seen → 0 < number → number ≤ length seen
    → get_or ends (number - 1) d ≡ length (others_form (take number seen))
place_behind string ends seen zero d h some within = absurd (omega (arith, some))
place_behind string ends seen (suc k) d h some within =
    let one : suc k - 1 ≡ k = omega arith in
    rw one (ap (λ (es : List ℕ). get_or es k d) h.places ∙ ends-at_first seen k d (omega (arith, within)))

-- a place is within the string
pub place_short : (string ends : List ℕ) (seen : List (List ℕ)) (number place : ℕ) → KeepsList string ends seen → place ≡ length (others_form (take number seen)) → place ≤ 65537
place_short string ends seen number place h at = let a = front_length number seen in omega (arith, at, ap length h.forms, a, h.short)

-- each item takes a byte at least
items_few : (items : List (List ℕ)) → length items ≤ length (others_form items)
items_few [] = omega arith
items_few (x ∷ xs) = let e = length-append (element_form x) (others_form xs) in omega (arith, e, items_few xs)

pub seen_few : (string ends : List ℕ) (seen : List (List ℕ)) → KeepsList string ends seen → length seen ≤ 65537
seen_few string ends seen h = omega (arith, items_few seen, ap length h.forms, h.short)

pub seen_width : (string ends shown : List ℕ) (seen : List (List ℕ)) → KeepsList string ends seen → shown ≡ string → (length shown ≡ length (others_form seen)) × (length shown ≤ 65537)
seen_width string ends shown seen h is = (ap length (is ∙ h.forms), omega (arith, ap length is, h.short))
