-- Steps. The tasks of the sample come to an end.
use Rattle.std.specs.Prelude.{◌≡◌, ℕ, ◌-◌, ◌==◌, ◌<◌, nat_lt, Bool, true, false, if◌then◌else◌, List, codes, refl}
use Rattle.std.proofs.Common.{arith}
use Rattle.std.proofs.lemmas.Bool.Decides.{nat_tests}
use Rattle.tcl_control.specs.declared.code.Code.{Code}
use Rattle.tcl_interp.specs.declared.tasks.Act.TheVariants.{Done, Step, Run}
use Rattle.tcl_interp.specs.Outside.{RunsBelow, Falls}
use Rattle.test_tcl.specs.Sample.{sample}

falls_by : (a b c : Bool) (task step : ℕ) (script text rested : List ℕ) (code end : Code) → (a ≡ false → 0 < task)
    → RunsBelow (λ n. n) task (if a then Done code text else (if b then Run script (task - 1) else (if c then Step step else Done end rested)))
falls_by true b c task step script text rested code end some = tt
falls_by false true c task step script text rested code end some = (let more : 0 < task = some refl in omega arith)
falls_by false false true task step script text rested code end some = tt
falls_by false false false task step script text rested code end some = tt

pub sample_falls : {S : Type 0} → Falls (sample {S = S})
sample_falls shows store task code text =
    falls_by (task == 0) (nat_lt task 10) (nat_lt task 12) task _ (codes "ask") text (codes "rested") code _ (λ e. grind (arith, nat_tests))
