-- Meaning. A few outside commands, for tests: tasks are numbers.
use Rattle.std.specs.Prelude.{ℕ, ◌+◌, ◌-◌, ◌==◌, nat_lt, List, [], ◌∷◌, if◌then◌else◌, codes, bytes_eq}
use Rattle.tcl_control.specs.declared.code.Code.{Code}
use Rattle.tcl_control.specs.declared.code.Code.TheVariants.{Normal, Error, Return, Break, Continue}
use Rattle.tcl_control.specs.declared.code.ReturnCode.TheVariants.{Normal as AsNormal}
use Rattle.tcl_interp.specs.declared.tasks.Act.{Act}
use Rattle.tcl_interp.specs.declared.tasks.Act.TheVariants.{Done, Step, Run, Unknown}
use Rattle.tcl_interp.specs.Outside.{Outside}

-- a command alone
abbrev pub alone_act : List ℕ → Act ℕ
alone_act name =
    if bytes_eq name (codes "ask") then Done Normal (codes "answer")
    else (if bytes_eq name (codes "fail") then Done Error (codes "failed")
    else (if bytes_eq name (codes "stop") then Done Break []
    else (if bytes_eq name (codes "go") then Done Continue []
    else (if bytes_eq name (codes "leave") then Done (Return AsNormal) (codes "left")
    else (if bytes_eq name (codes "rest") then Step 10
    else Unknown)))))

-- `again script` runs the script, and then asks three times
abbrev pub sample_act : List (List ℕ) → Act ℕ
sample_act (name ∷ []) = alone_act name
sample_act (name ∷ script ∷ []) = if bytes_eq name (codes "again") then Run script 3 else Unknown
sample_act _ = Unknown

-- a task from 10 on takes a step for each number up to 12; another runs that many scripts
abbrev pub resumed_act : ℕ → Code → List ℕ → Act ℕ
resumed_act task code text =
    if task == 0 then Done code text
    else (if nat_lt task 10 then Run (codes "ask") (task - 1)
    else (if nat_lt task 12 then Step (task + 1)
    else Done Normal (codes "rested")))

abbrev pub sample : {S : Type 0} → Outside S ℕ
sample = record {
  calls = λ shows store words. record { shows = shows; store = store; act = sample_act words };
  resumes = λ shows store task code text. record { shows = shows; store = store; act = resumed_act task code text };
  size = λ task. task;
}
