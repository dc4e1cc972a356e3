-- Steps. The tasks of jobs come to an end: a script that one of them runs is followed by a smaller one.
use Rattle.std.specs.Prelude.{ℕ, List}
use Rattle.std.proofs.Common.{arith}
use Rattle.tcl_vars.specs.Store.{Store}
use Rattle.tcl_control.specs.declared.code.Code.{Code}
use Rattle.tcl_control.specs.declared.code.Code.TheVariants.{Normal, Error, Return, Break, Continue}
use Rattle.tcl_interp.specs.Outside.{Falls, RunsBelow, Told}
use Rattle.tcl_interp.specs.declared.job.Looked.{Looked}
use Rattle.tcl_interp.specs.declared.job.Looked.TheVariants.{Wants, Ends}
use Rattle.tcl_interp.specs.declared.job.Task.{Task}
use Rattle.tcl_interp.specs.declared.job.Task.TheVariants.{Begins, Waits, Runs, Invoked}
use Rattle.tcl_interp.specs.Course.{Course}
use Rattle.tcl_interp.specs.Tasks.{act_of, global_act, size_of, outside_of}

looked_below : {J : Type 0} (bound : ℕ) (looked : Looked J) → RunsBelow size_of bound (act_of looked)
looked_below bound (Wants job) = tt
looked_below bound (Ends code text) = tt

global_below : (J : Type 0) (bound : ℕ) (code : Code) (text : List ℕ) → RunsBelow (size_of {J = J}) bound (global_act code text)
global_below J bound Normal text = tt
global_below J bound Error text = tt
global_below J bound (Return code) text = tt
global_below J bound Break text = tt
global_below J bound Continue text = tt

pub jobs_fall : {S J : Type 0} (course : Course S J) (calls : S → Store → List (List ℕ) → Told S (Task J)) → Falls (outside_of course calls)
jobs_fall {S} {J} course calls shows store (Begins script job) code text = omega arith
jobs_fall {S} {J} course calls shows store (Waits job) code text = omega arith
jobs_fall {S} {J} course calls shows store (Runs job) code text =
    let there = course.ended code text shows job in looked_below 0 (course.look there.0 store there.1).1
jobs_fall {S} {J} course calls shows store Invoked code text = global_below J 0 code text
