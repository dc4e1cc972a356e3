-- Facts about changed texts.
use Rattle.std.proofs.Common.{◌≡◌, ℕ, ◌<◌, ◌≤◌, true, false, leb, List, ◌++◌, length, Ok, Err, Result, ap, sym, ◌∙◌, arith}
use Rattle.std.proofs.lemmas.Bool.Decides.{nat_tests}
use Rattle.tcl_text.specs.Edit.{with_more, within_limit, written_anew}
use Rattle.tcl_text.specs.Readings.{list_form, list_of}
use Rattle.tcl_text.specs.declared.fault.EditFault.{EditFault}
use Rattle.tcl_text.specs.declared.fault.EditFault.TheVariants.{TooLong}
use Rattle.tcl_text.proofs.RoundTrip.{list_of-list_form}

-- a text within the limit, and one past it
pub within : (text : List ℕ) → length text ≤ 65536 → within_limit text ≡ Ok text
unfolding within_limit
within text h = let e : leb (length text) 65536 ≡ true = grind (arith, nat_tests) in rw e

pub beyond : (text : List ℕ) → 65536 < length text → within_limit text ≡ Err TooLong
unfolding within_limit
beyond text h = let e : leb (length text) 65536 ≡ false = grind (arith, nat_tests) in rw e

pub ruleset limits = (within, beyond)

-- a list that is read is written anew
pub anew_ok : (read : Result (List (List ℕ)) EditFault) (items : List (List ℕ)) → read ≡ Ok items → written_anew read ≡ within_limit (list_form items)
anew_ok read items e = ap written_anew e

pub anew_err : (read : Result (List (List ℕ)) EditFault) (fault : EditFault) → read ≡ Err fault → written_anew read ≡ Err fault
anew_err read fault e = ap written_anew e

pub ruleset anew = (anew_ok, anew_err)

-- the form of a list, written anew with more items, is the form of those and more
pub anew_behind : (items more : List (List ℕ)) → written_anew (with_more more (list_of (list_form items))) ≡ within_limit (list_form (items ++ more))
anew_behind items more = ap (λ read. written_anew (with_more more read)) (list_of-list_form items)

-- so is a kept list to which they were added, unless it is too long
pub anew_kept : (before after more : List (List ℕ)) → after ≡ before ++ more → length (list_form after) ≤ 65536 → written_anew (with_more more (list_of (list_form before))) ≡ Ok (list_form after)
anew_kept before after more is short = anew_behind before more ∙ ap (λ (t : List (List ℕ)). within_limit (list_form t)) (sym is) ∙ within (list_form after) short

pub anew_long : (before more : List (List ℕ)) → 65536 < length (list_form (before ++ more)) → written_anew (with_more more (list_of (list_form before))) ≡ Err TooLong
anew_long before more long = anew_behind before more ∙ beyond (list_form (before ++ more)) long

pub ruleset kept_lists = (anew_kept, anew_long)
