-- Facts about answers and refusals.
use Rattle.std.proofs.Common.{◌≡◌, ℕ, ◌<◌, ◌≤◌, true, false, leb, List, length, Ok, Err, Result, refl, sym, ap, subst, arith}
use Rattle.std.proofs.lemmas.Bool.Decides.{nat_tests}
use Rattle.tcl_text.specs.Answers.{◌>>=◌, answers, bounded, items_in, items_or_error, limit_text, Gives, Refuses}
use Rattle.tcl_text.specs.Readings.{list_of}
use Rattle.tcl_text.specs.declared.fault.ListFault.{ListFault}
use Rattle.tcl_text.specs.declared.commands.answers.Refusal.{Refusal}
use Rattle.tcl_text.specs.declared.commands.answers.Refusal.TheVariants.{Error, NoMemory}

-- a text within the limit, and one past it
pub answers_within : (text : List ℕ) → length text ≤ 65536 → answers text ≡ Ok text
unfolding answers
answers_within text h = let e : leb (length text) 65536 ≡ true = grind (arith, nat_tests) in rw e

pub answers_beyond : (text : List ℕ) → 65536 < length text → answers text ≡ Err limit_text
unfolding answers
answers_beyond text h = let e : leb (length text) 65536 ≡ false = grind (arith, nat_tests) in rw e

pub bounded_within : (text : List ℕ) → length text ≤ 65536 → bounded text ≡ text
unfolding bounded
bounded_within text h = let e : leb (length text) 65536 ≡ true = grind (arith, nat_tests) in rw e

pub bounded_beyond : (text : List ℕ) → 65536 < length text → bounded text ≡ limit_text
unfolding bounded
bounded_beyond text h = let e : leb (length text) 65536 ≡ false = grind (arith, nat_tests) in rw e

pub ruleset bounds = (answers_within, answers_beyond, bounded_within, bounded_beyond)

-- a refused step is the whole command's refusal
pub refused : {T U : Type 0} (e : Refusal) (step : Result T (List ℕ)) (rest : T → Result U (List ℕ)) → Gives {T = T} (Err e) step → Gives {T = U} (Err e) (step >>= rest)
refused (Error message) step rest h = rw h refl
refused NoMemory step rest h = tt

-- a refusal is what the definition says, where that is its text
pub given_error : (T : Type 0) (e : Refusal) (text : List ℕ) → Refuses e text → Gives {T = T} (Err e) (Err text)
given_error T (Error message) text h = ap Err h
given_error T NoMemory text h = tt

pub ruleset list_faults = (given_error)

-- the items of a text that is known to be a list
pub items_known : {T : Type 0} (answer : Result T Refusal) (list : List ℕ) (items : List (List ℕ)) (rest : List (List ℕ) → Result T (List ℕ)) → list_of list ≡ Ok items
    → Gives answer (rest items) → Gives answer (items_in list >>= rest)
unfolding items_in
items_known answer list items rest known gives = subst (λ (read : Result (List (List ℕ)) ListFault). Gives answer (items_or_error read >>= rest)) (sym known) gives
