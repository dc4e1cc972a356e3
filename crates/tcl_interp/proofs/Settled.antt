-- What is due, other than a task, is a step or the end; where the moves stop otherwise, a script is to be read.
use Rattle.std.proofs.Common.{◌≡◌, ◌≤◌, ℕ, Bool, List, Box, Global, refl, arith}
use Rattle.tcl_control.specs.declared.code.Code.{Code}
use Rattle.tcl_interp.specs.declared.machine.Now.{Now}
use Rattle.tcl_interp.specs.declared.machine.Now.TheVariants.{Begins, Calls, Tests, Steps, Resumes, Ends}
use Rattle.tcl_interp.specs.Finish.{Doing, Waiting}
use Rattle.tcl_interp.specs.Finish as doing
use Rattle.tcl_interp.specs.Quiet.{IsDueBy, StopsBy}
use Rattle.tcl_interp.specs.Rests.{doing_of}
use Rattle.tcl_interp.specs.Steps.{IsSettledBy, pauses_left}

pub stops_due : {K : Type 0} (pauses : Bool) (now : Now K) (waits : List (Waiting K)) → StopsBy pauses (doing_of now) waits → ((room : ℕ) (script : List ℕ) → now ≡ Begins room script → ⊥) → IsDueBy pauses (doing_of now) waits
stops_due pauses (Begins room script) waits stops none = absurd (none room script refl)
stops_due pauses (Calls room words) waits stops none = tt
stops_due pauses (Tests room looping) waits stops none = tt
stops_due pauses (Steps room task) waits stops none = tt
stops_due pauses (Resumes room task code text) waits stops none = tt
stops_due pauses (Ends code text) waits stops none = stops
stops_due pauses now waits stops none = stops

pub due_settled : {K : Type 0} (pauses : Bool) (now : Now K) (waits : List (Waiting K)) → IsDueBy pauses (doing_of now) waits → ((room : ℕ) (task : Box K Global) (code : Code) (text : List ℕ) → now ≡ Resumes room task code text → ⊥) → IsSettledBy pauses (doing_of now) waits
due_settled pauses (Calls room words) waits due none = tt
due_settled pauses (Tests room looping) waits due none = tt
due_settled pauses (Steps room task) waits due none = tt
due_settled pauses (Resumes room task code text) waits due none = none room task code text refl
due_settled pauses (Ends code text) waits due none = due
due_settled pauses now waits due none = due

-- moves pause at most once before a step
pub pauses_once : {K : Type 0} (doing : Doing K) → pauses_left doing ≤ 1
pauses_once (doing.Resumes room task code text) = omega arith
pauses_once (doing.Ends code text) = omega arith
pauses_once doing = omega arith
