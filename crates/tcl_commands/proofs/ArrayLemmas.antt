-- Which elements of an array match a pattern.
use Rattle.std.proofs.Common.{◌≡◌, ℕ, Bool, true, false, List, [], ◌∷◌, map, cond, if◌then◌else◌, refl, ap}
use Rattle.std.specs.Prelude.{filter}
use Rattle.tcl_vars.specs.Table.{Table}
use Rattle.tcl_vars.specs.Store.{pairs_of}
use Rattle.tcl_commands.specs.Arrays.{is_wanted}
use Rattle.tcl_commands.specs.ArraySteps.{pairs_matching}

keep_name : (b : Bool) (e : List ℕ × List ℕ) (xs : List (List ℕ)) (ys : Table (List ℕ)) → xs ≡ map (λ x. x.0) ys
    → cond b (e.0 ∷ xs) xs ≡ map (λ x. x.0) (cond b (e ∷ ys) ys)
keep_name true e xs ys h = ap (λ t. e.0 ∷ t) h
keep_name false e xs ys h = h

-- filtering the indices
pub names : (pattern : List ℕ) (elements : Table (List ℕ)) → filter (is_wanted pattern) (map (λ e. e.0) elements) ≡ map (λ e. e.0) (filter (λ e. is_wanted pattern e.0) elements)
names pattern [] = refl
names pattern (e ∷ es) = keep_name (is_wanted pattern e.0) e (filter (is_wanted pattern) (map (λ x. x.0) es)) (filter (λ x. is_wanted pattern x.0) es) (names pattern es)

keep_pair : (b : Bool) (e : List ℕ × List ℕ) (xs : List (List ℕ)) (ys : Table (List ℕ)) → xs ≡ pairs_of ys
    → (if b then e.0 ∷ e.1 ∷ xs else xs) ≡ pairs_of (cond b (e ∷ ys) ys)
keep_pair true e xs ys h = ap (λ t. e.0 ∷ e.1 ∷ t) h
keep_pair false e xs ys h = h

-- filtering the indices and values in turn
pub pairs : (pattern : List ℕ) (elements : Table (List ℕ)) → pairs_matching pattern (pairs_of elements) ≡ pairs_of (filter (λ e. is_wanted pattern e.0) elements)
pairs pattern [] = refl
pairs pattern (e ∷ es) = keep_pair (is_wanted pattern e.0) e (pairs_matching pattern (pairs_of es)) (filter (λ x. is_wanted pattern x.0) es) (pairs pattern es)
