-- What a refused text or list means.
use Rattle.std.proofs.Common.{◌≡◌, ◌≢◌, ℕ, ◌<◌, List, length, Result, Err, IfErr, sym, subst}
use Rattle.tcl_text.specs.ListForm.{Joins}
use Rattle.tcl_text.specs.declared.fault.TextFault.{TextFault}
use Rattle.tcl_text.specs.declared.fault.TextFault.TheVariants.{TooLong, NoMemory}

-- a form is refused where it is too long
pub Joins-refused : (answer : Result (List ℕ) TextFault) (fault : TextFault) (form : List ℕ) → answer ≡ Err fault → (fault ≢ NoMemory → 65536 < length form) → Joins answer form
Joins-refused answer TooLong form is long = let P : Result (List ℕ) TextFault → Type 0 = λ r. Joins r form in subst P (sym is) (long (λ e. cc))
Joins-refused answer NoMemory form is long = let P : Result (List ℕ) TextFault → Type 0 = λ r. Joins r form in subst P (sym is) tt

-- what a fault tells, the answer tells that has it
pub fault_told : {T : Type 0} (answer : Result T TextFault) (fault : TextFault) (P : Type 0) → answer ≡ Err fault → (fault ≢ NoMemory → P) → IfErr answer (λ f. f ≢ NoMemory → P)
fault_told {T = T} answer fault P is told = subst (λ (r : Result T TextFault). IfErr r (λ f. f ≢ NoMemory → P)) (sym is) told
