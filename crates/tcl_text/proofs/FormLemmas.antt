-- Items are told by their forms.
use Rattle.std.proofs.Common.{◌≡◌, ℕ, ◌+◌, ◌<◌, ◌≤◌, Bool, true, false, ◌||◌, List, [], ◌∷◌, take, length, get_or, bytes_eq, Option, IfSome, Result, Ok, Err, IfOk, refl, ap, sym, ◌∙◌, inl, inr}
use Rattle.std.specs.List.{list_any}
use Rattle.std.specs.Result.{result_ok}
use Rattle.std.proofs.lemmas.Bool.{cases_Bool}
use Rattle.std.proofs.lemmas.List.{take_all}
use Rattle.std.proofs.lemmas.List.Folds.{list_any_at, list_any_more}
use Rattle.std.proofs.lemmas.Slice.Eq.{bytes_eq-Decides}
use Rattle.tcl_text.specs.Searching.{has_item}
use Rattle.tcl_text.specs.Readings.{element_form, list_form, list_of}
use Rattle.tcl_text.specs.declared.fault.ListFault.{ListFault}
use Rattle.tcl_text.proofs.ByteLemmas.{equal, unequal}
use Rattle.tcl_text.proofs.RoundTrip.{list_of-list_form}

one_item : List ℕ → Result (List (List ℕ)) ListFault
one_item x = Ok (x ∷ [])

first_item : (x y : List ℕ) → one_item x ≡ one_item y → x ≡ y
unfolding one_item
first_item x y e = cc

-- items of one form are the same
pub one_form : (x y : List ℕ) → element_form x ≡ element_form y → x ≡ y
unfolding list_form one_item
one_form x y e =
    first_item x y (sym (list_of-list_form (x ∷ [])) ∙ ap list_of e ∙ list_of-list_form (y ∷ []))

-- so whether forms are the same tells it of the items
same_told : (x y form : List ℕ) → form ≡ element_form y → bytes_eq (element_form x) form ≡ bytes_eq x y
same_told x y form is = elim (cases_Bool (bytes_eq x y)) [
  | inl same ↦ equal (element_form x) form (ap element_form ((bytes_eq-Decides x y).0 same) ∙ sym is) ∙ sym same
  | inr other ↦ unequal (element_form x) form (λ (e : element_form x ≡ form). absurd (both (bytes_eq x y) (equal x y (one_form x y (e ∙ is))) other)) ∙ sym other
]
  where
    both : (b : Bool) → b ≡ true → b ≡ false → ⊥
    both true s o = cc
    both false s o = cc

pub any_told : (y form : List ℕ) (items : List (List ℕ)) → form ≡ element_form y → list_any (λ one. bytes_eq (element_form one) form) items ≡ list_any (λ one. bytes_eq one y) items
any_told y form [] is = refl
any_told y form (x ∷ xs) is = λ k. same_told x y form is k || any_told y form xs is k

-- ── one after another ──

pub no_form_more : (form shown : List ℕ) (items : List (List ℕ)) (i : ℕ) → i < length items → shown ≡ element_form (get_or items i []) → bytes_eq shown form ≡ false
    → list_any (λ one. bytes_eq (element_form one) form) (take i items) ≡ false → list_any (λ one. bytes_eq (element_form one) form) (take (i + 1) items) ≡ false
no_form_more form shown items i inside is other before =
    list_any_more (λ one. bytes_eq (element_form one) form) items i [] inside
    ∙ (λ k. before k || bytes_eq (element_form (get_or items i [])) form) ∙ ap (λ (t : List ℕ). bytes_eq t form) (sym is) ∙ other

pub form_found : (form shown : List ℕ) (items : List (List ℕ)) (i : ℕ) → i < length items → shown ≡ element_form (get_or items i []) → bytes_eq shown form ≡ true
    → list_any (λ one. bytes_eq (element_form one) form) items ≡ true
form_found form shown items i inside is same = list_any_at (λ one. bytes_eq (element_form one) form) items i [] inside (ap (λ (t : List ℕ). bytes_eq t form) (sym is) ∙ same)

pub no_form : (form : List ℕ) (items : List (List ℕ)) (i : ℕ) → length items ≤ i → list_any (λ one. bytes_eq (element_form one) form) (take i items) ≡ false
    → list_any (λ one. bytes_eq (element_form one) form) items ≡ false
no_form form items i past before = ap (list_any (λ one. bytes_eq (element_form one) form)) (sym (take_all i items past)) ∙ before

-- ── what a kept list tells of a text ──

pub told_kept : {E : Type 0} (item : List ℕ) (items : List (List ℕ)) (read : Result (List (List ℕ)) ListFault) (r : Result Bool E) (o : Option Bool) → read ≡ Ok items
    → IfOk r (λ found. found ≡ list_any (λ one. bytes_eq one item) items) → o ≡ result_ok r → IfSome o (λ found. has_item item read ≡ Ok found)
told_kept item items read (Ok found) o is told same =
    rw same (ap (has_item item) is ∙ ap (λ (b : Bool). let found : Result Bool ListFault = Ok b in found) (sym told))
told_kept item items read (Err refused) o is told same = rw same tt

pub as_shown : (read : Result (List (List ℕ)) ListFault) (shown items : List (List ℕ)) → read ≡ Ok items → shown ≡ items → read ≡ Ok shown
as_shown read shown items is same = is ∙ ap (λ (xs : List (List ℕ)). let read : Result (List (List ℕ)) ListFault = Ok xs in read) (sym same)
