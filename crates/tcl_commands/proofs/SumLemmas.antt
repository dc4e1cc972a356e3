-- Sums in 64 bits.
use Rattle.std.proofs.Common.{◌≡◌, ℕ, inl, inr, ℤ, pos, negsuc, ◌<◌, ◌≤◌, ◌^◌, Bool, true, false, List, Result, Ok, ap, sym, ◌∙◌, if◌then◌else◌, arith}
use Rattle.std.proofs.lemmas.Bool.{cases_lt}
use Rattle.std.proofs.lemmas.Bool.Decides.{nat_tests}
use Rattle.std.specs.Int.{w64}
use Rattle.std.specs.Fmt.{signed_decimal}
use Rattle.std.specs.Prelude.{FitsSigned, nat_lt, codes, ◌+ℤ◌}
use Rattle.tcl_text.specs.Answers.{◌>>=◌, integer_in, integer_or_error, too_large}
use Rattle.tcl_vars.specs.Add.{Adds}
use Rattle.tcl_vars.specs.Store.{Store}
use Rattle.tcl_commands.specs.Values.{changed_to, increased, is_in_range, sum_of, value_changed, value_set, variable_changed}

below : (n bound : ℕ) → n < bound → nat_lt n bound ≡ true
below n bound h = grind (arith, nat_tests)

beyond : (n bound : ℕ) → (n < bound → ⊥) → nat_lt n bound ≡ false
beyond n bound h = elim (cases_lt n bound) [ inl less ↦ absurd (h less) | inr more ↦ grind (arith, nat_tests) ]

pub in_range : (n : ℤ) → FitsSigned w64 n → is_in_range n ≡ true
in_range (pos n) h = below n (2 ^ 63) h.sfits
in_range (negsuc n) h = below n (2 ^ 63) h.sfits

pub out_of_range : (n : ℤ) → (FitsSigned w64 n → ⊥) → is_in_range n ≡ false
out_of_range (pos n) h = beyond n (2 ^ 63) (λ less. h (record { sfits = less }))
out_of_range (negsuc n) h = beyond n (2 ^ 63) (λ less. h (record { sfits = less }))

pub ruleset sums = (in_range, out_of_range)

-- an integer that is there is set to the sum
pub sum_changes : (frame : ℕ) (name : List ℕ) (old new : Store) (amount : Result ℤ (List ℕ)) (number : ℤ) (sum : List ℕ) → amount ≡ Ok number → Adds old frame name number sum new
    → record { store = new; answer = Ok sum } ≡ variable_changed frame name (codes "0") (increased amount) old
unfolding integer_in
sum_changes frame name old new amount number sum is adds =
    let held : integer_in adds.held ≡ Ok adds.is.number = ap (integer_or_error adds.held) adds.is.read in
    let sums : sum_of adds.is.number number ≡ Ok sum = ap (λ b. if b then Ok (signed_decimal (adds.is.number +ℤ number)) else too_large) (in_range (adds.is.number +ℤ number) adds.is.fits)
    ∙ ap Ok (sym adds.is.written) in
    let whole : increased amount adds.held ≡ Ok sum = ap (λ r. r >>= (λ a. amount >>= (λ b. sum_of a b))) held ∙ ap (λ r. r >>= (λ b. sum_of adds.is.number b)) is ∙ sums in
    sym (ap (λ r. changed_to frame name old (value_changed (codes "0") name (increased amount) r)) adds.read ∙ ap (changed_to frame name old) whole ∙ ap (value_set name sum old) adds.set)
