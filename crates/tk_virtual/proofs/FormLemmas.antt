-- The form of a list is at least as long as its items.
use Rattle.std.proofs.Common.{◌≡◌, ◌≢◌, ℕ, ◌<◌, ◌≤◌, Bool, true, false, cond, List, [], ◌∷◌, ◌++◌, length, length-append, Result, Ok, Err, IfErr, ap, arith}
use Rattle.std.specs.List.{concat}
use Rattle.tcl_text.specs.ListForm.{others_form}
use Rattle.tcl_text.specs.Readings.{begins_comment, can_be_bare, can_be_braced, element_form, is_special, letter_of, list_form, with_backslashes}
use Rattle.tcl_text.specs.declared.fault.TextFault.{TextFault}
use Rattle.tcl_text.specs.declared.fault.TextFault.TheVariants.{NoMemory}
use Rattle.tcl_text.proofs.ListFormLemmas.{list_form-cons}

backslashes_long : (item : List ℕ) → length item ≤ length (with_backslashes item)
backslashes_long [] = omega arith
backslashes_long (c ∷ cs) = by (is_special c) (backslashes_long cs)
  where
    by : (t : Bool) → length cs ≤ length (with_backslashes cs) → length (c ∷ cs) ≤ length (cond t (92 ∷ letter_of c ∷ with_backslashes cs) (c ∷ with_backslashes cs))
    by true rest = omega (arith, rest)
    by false rest = omega (arith, rest)

element_long : (item : List ℕ) → length item ≤ length (element_form item)
element_long [] = omega arith
element_long (c ∷ cs) = by (can_be_bare (c ∷ cs)) (can_be_braced (c ∷ cs)) (begins_comment (c ∷ cs)) (backslashes_long (c ∷ cs))
  where
    item : List ℕ
    item = c ∷ cs

    by : (bare braced comment : Bool) → length item ≤ length (with_backslashes item)
        → length item ≤ length (cond bare item (cond braced (123 ∷ (item ++ 125 ∷ [])) (cond comment (92 ∷ with_backslashes item) (with_backslashes item))))
    by true braced comment rest = omega arith
    by false true comment rest = omega (arith, length-append item (125 ∷ []))
    by false false true rest = omega (arith, rest)
    by false false false rest = rest

others_long : (items : List (List ℕ)) → length (concat items) ≤ length (others_form items)
others_long [] = omega arith
others_long (item ∷ items) =
    let one = element_long item in
    let rest = others_long items in
    omega (arith, one, rest, length-append item (concat items), length-append (element_form item) (others_form items))

pub form_long : (items : List (List ℕ)) → length (concat items) ≤ length (list_form items)
form_long [] = omega arith
form_long (item ∷ items) =
    let one = element_long item in
    let rest = others_long items in
    omega (arith, one, rest, length-append item (concat items), length-append (element_form item) (others_form items), ap length (list_form-cons item items))

-- items that are too long by themselves have no list
pub too_long_listed : {V : Type 0} (r : Result V TextFault) (items others : List (List ℕ)) → items ≡ others → IfErr r (λ fault. fault ≢ NoMemory → 65536 < length (concat items))
    → IfErr r (λ fault. fault ≢ NoMemory → 65536 < length (list_form others))
too_long_listed (Ok value) items others is told = tt
too_long_listed (Err fault) items others is told = λ differ.
    let long = told differ in
    let whole = form_long others in
    omega (arith, long, whole, ap (λ (l : List (List ℕ)). length (concat l)) is)
