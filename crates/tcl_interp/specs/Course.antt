-- Steps. The course of jobs: what an object that does them says of each, by what it shows and the variables.
use Rattle.std.specs.Prelude.{ℕ, List}
use Rattle.tcl_vars.specs.Store.{Store}
use Rattle.tcl_control.specs.declared.code.Code.{Code}
use Rattle.tcl_interp.specs.declared.job.Looked.{Looked}
use Rattle.tcl_interp.specs.declared.job.Started.{Started}

-- Each of the three says what the object shows then, too.
pub record Course (S J : Type 0) : Type 0 where
  -- what comes next
  pub look : S → Store → J → S × Looked J
  -- what that starts, once its step is taken
  pub start : S → Store → J → S × Started J
  -- what is left of the job once its script has ended
  pub ended : Code → List ℕ → S → J → S × J
