-- What isn't in the tables of an application that begins.
use Rattle.std.proofs.Common.{◌≡◌, ℕ, List, [], ◌∷◌, ◌++◌, ap, ◌∙◌}
use Rattle.tcl_control.specs.declared.context.Context.{Context}
use Rattle.tcl_vars.specs.Store.{Store}
use Rattle.tcl_interp.specs.declared.interp.Interp.{Interp}
use Rattle.tcl_interp.specs.Finish.{RestToDo, rest_of_task}
use Rattle.tcl_interp.specs.Interp.{at_top, context_of, first_context, left_of, rest_of}
use Rattle.tcl_interp.specs.declared.job.Task.{Task}
use Rattle.tcl_interp.specs.declared.job.Task.TheVariants as task
use Rattle.tk_panel.specs.declared.job.Job.{Job}
use Rattle.tk_base.specs.declared.budget.Budget.{Budget}
use Rattle.tk_app.specs.declared.state.AppState.TheVariants.{Running}
use Rattle.tk_app.specs.Names.{command_names}
use Rattle.tk_app.specs.Part.{work_of}
use Rattle.tk_app.specs.Seen.{names_of}
use Rattle.tk_app.specs.SettleJob.{settling}
use Rattle.tk_app.specs.Turns.{Program, beginning, work_by}

module _ {M : Type 0} (budget : Budget) where
  abbrev made : List ℕ → List (List ℕ × M) → Store → Context → RestToDo (Task Job) → ℕ → Program M
  made name aliases store context rest left = record {
    name = name;
    aliases = aliases;
    budget = budget;
    store = store;
    commands = context.commands;
    steps = left;
    state = Running;
    work = work_by Running (work_of rest context.levels);
  }

  pub begins : (name' name script' script : List ℕ) (aliases' aliases : List (List ℕ × M)) (store : Store) (interp : Interp (Task Job)) (names : List (List ℕ)) (old : Context) (job : Job)
      → name' ≡ name → script' ≡ script → aliases' ≡ aliases → store ≡ [] ∷ [] → names ≡ command_names ++ names_of aliases → old ≡ first_context names → context_of interp ≡ at_top old
      → rest_of interp ≡ rest_of_task (task.Begins script' job) → job ≡ settling → left_of interp ≡ budget.total
      → made name' aliases' store (context_of interp) (rest_of interp) (left_of interp) ≡ beginning name script budget aliases
  begins name' name script' script aliases' aliases store interp names old job is_name is_script is_aliases is_store is_names is_old is_context is_rest is_job is_left =
      let all : List (List ℕ) = command_names ++ names_of aliases in
      ap (λ n. made n aliases' store (context_of interp) (rest_of interp) (left_of interp)) is_name
      ∙ ap (λ a. made name a store (context_of interp) (rest_of interp) (left_of interp)) is_aliases
      ∙ ap (λ s. made name aliases s (context_of interp) (rest_of interp) (left_of interp)) is_store
      ∙ ap (λ c. made name aliases ([] ∷ []) c (rest_of interp) (left_of interp)) (is_context ∙ ap at_top (is_old ∙ ap first_context is_names))
      ∙ ap (λ r. made name aliases ([] ∷ []) (at_top (first_context all)) r (left_of interp))
      (is_rest ∙ ap (λ s. rest_of_task (task.Begins s job)) is_script ∙ ap (λ j. rest_of_task (task.Begins script j)) is_job)
      ∙ ap (λ l. made name aliases ([] ∷ []) (at_top (first_context all)) (rest_of_task (task.Begins script settling)) l) is_left
