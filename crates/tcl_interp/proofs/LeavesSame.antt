-- What calls and tasks leave as it is.
use Rattle.std.proofs.Common.{◌≡◌, ℕ, List, refl, ◌∙◌}
use Rattle.tcl_control.specs.declared.code.Code.{Code}
use Rattle.tcl_interp.specs.Evaluation.{State, Outcome, Ended, OutOfSteps}
use Rattle.tcl_interp.specs.Outside.{Outside}
use Rattle.tcl_interp.specs.Acts.{script_meaning, task_meaning}
use Rattle.tcl_interp.specs.Leaves.{EndsWith, Leaves, ScriptsLeave, TasksLeave}
use Rattle.tcl_interp.proofs.Kept.{Keeps, Kept, kept_script, kept_task}

module _ {S K T : Type 0} (f : S → T) (outside : Outside S K) (leaves : Leaves f outside) (value : T) where
  abbrev P : S → Type 0
  P shows = f shows ≡ value

  keeps : Keeps P outside
  keeps = (
    λ shows store words is. leaves.calls shows store words ∙ is,
    λ shows store task code text is. leaves.resumes shows store task code text ∙ is,
  )

  ends : (o : Outcome S) → Kept P o → EndsWith f value o
  ends (Ended state code text) kept = kept
  ends (OutOfSteps state) kept = tt

  pub script_leaves : (room : ℕ) (script : List ℕ) (state : State S) → f state.shows ≡ value → EndsWith f value (script_meaning outside room script state)
  script_leaves room script state is = ends (script_meaning outside room script state) (kept_script P outside keeps room script state is)

  pub task_leaves : (room : ℕ) (task : K) (state : State S) (code : Code) (text : List ℕ) → f state.shows ≡ value
      → EndsWith f value (task_meaning outside (script_meaning outside room) task state code text)
  task_leaves room task state code text is =
      ends (task_meaning outside (script_meaning outside room) task state code text)
      (kept_task P outside keeps (script_meaning outside room) (kept_script P outside keeps room) task state code text is)

pub scripts_leave : {S K T : Type 0} → ScriptsLeave S K T
scripts_leave f outside leaves room script state = script_leaves f outside leaves (f state.shows) room script state refl

pub tasks_leave : {S K T : Type 0} → TasksLeave S K T
tasks_leave f outside leaves room task state code text = task_leaves f outside leaves (f state.shows) room task state code text refl
