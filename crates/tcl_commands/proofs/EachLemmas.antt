-- Facts about steps for each of several variables.
use Rattle.std.proofs.Common.{◌≡◌, ℕ, List, Ok, Err, Result, refl, sym, ap, ◌∙◌}
use Rattle.tcl_text.specs.declared.commands.answers.Refusal.{Refusal}
use Rattle.tcl_text.specs.declared.commands.answers.Refusal.TheVariants.{Error, NoMemory}
use Rattle.tcl_vars.specs.Store.{Store}
use Rattle.tcl_commands.specs.Done.{Done, unless_refused}
use Rattle.tcl_commands.specs.Refusals.{Does, Steps}

-- a step that was done
pub step_done : (others : Store → Done) (old new : Store) (step : Result Store (List ℕ)) → step ≡ Ok new → unless_refused others old step ≡ others new
step_done others old new step done = ap (unless_refused others old) done

-- a refused step is the whole command's refusal
pub step_refused : (refusal : Refusal) (U : Type 0) (others : Store → Done) (old new : Store) (step : Result Store (List ℕ)) (done : Done)
    → Steps {U = U} (Err refusal) old new step → unless_refused others old step ≡ done → Does (Err refusal) new done
step_refused (Error message) U others old new step done refused rest =
    sym rest ∙ ap (unless_refused others old) refused.0 ∙ ap (λ store. record { store = store; answer = Err message }) (sym refused.1)
step_refused NoMemory U others old new step done refused rest = tt

pub ruleset steps = (step_done, step_refused)
