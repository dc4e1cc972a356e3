-- Steps. The commands of an application as its interpreter calls them: by acts, and by tasks that go on with jobs. What they come to, `Commands` says.
use Rattle.std.specs.Prelude.{ℕ, List, [], ◌∷◌, Option, Some, None, option_map, Ok, Err}
use Rattle.tcl_vars.specs.Store.{Store}
use Rattle.tcl_control.specs.declared.code.Code.TheVariants.{Normal, Error}
use Rattle.tcl_interp.specs.declared.tasks.Act.{Act}
use Rattle.tcl_interp.specs.declared.tasks.Act.TheVariants.{Done}
use Rattle.tcl_interp.specs.Acts.{script_meaning}
use Rattle.tcl_interp.specs.Outside.{Outside, Told}
use Rattle.tcl_interp.specs.declared.job.Task.{Task}
use Rattle.tcl_interp.specs.Tasks.{outside_of}
use Rattle.tk_alias.specs.Replies.{Answer}
use Rattle.tk_panel.specs.declared.job.Job.{Job}
use Rattle.tk_panel.specs.Panel.{Panel}
use Rattle.tk_commands.specs.Calls.{calls as panel_calls}
use Rattle.tk_app.specs.Course.{seen_with_panel}
pub use Rattle.tk_app.specs.Course.{course, of_panel}
use Rattle.tk_app.specs.Dispatch.{RunsScripts}
use Rattle.tk_app.specs.Seen.{Meaning, Seen, served_by}

abbrev pub Does : Type 0
Does = Told Seen (Task Job)

-- what a command of the panel does
abbrev pub by_panel : Seen → Told Panel (Task Job) → Does
by_panel seen told = record { shows = seen_with_panel told.shows seen; store = told.store; act = told.act }

abbrev pub act_of : Answer → Act (Task Job)
act_of (Ok text) = Done Normal text
act_of (Err text) = Done Error text

-- what the alias of a command's name answers, where there is one
abbrev pub alias_act : List (List ℕ × Meaning) → List (List ℕ) → Option (Act (Task Job))
alias_act serves [] = None
alias_act serves (name ∷ arguments) = option_map (λ meaning. act_of (meaning arguments)) (served_by name serves)

-- an alias goes before the other commands, and changes nothing
abbrev pub called_as : Option (Act (Task Job)) → List (List ℕ) → Seen → Store → Does
called_as (Some act) words seen store = record { shows = seen; store = store; act = act }
called_as None words seen store = by_panel seen (panel_calls seen.panel store words)

-- a command, by its name and the words behind it
abbrev pub calls : Seen → Store → List (List ℕ) → Does
calls seen store words = called_as (alias_act seen.serves words) words seen store

-- all that scripts call, with the tasks by which jobs go on
abbrev pub outside : Outside Seen (Task Job)
outside = outside_of course calls

-- how its scripts are run then, with room for so many one in another
abbrev pub run_in : ℕ → RunsScripts
run_in room = script_meaning outside room
