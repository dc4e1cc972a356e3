-- Facts about what commands leave and answer.
use Rattle.std.proofs.Common.{◌≡◌, ℕ, List, Ok, Err, Result, refl, sym, ap, ◌∙◌}
use Rattle.tcl_text.specs.Answers.{Answer, Gives}
use Rattle.tcl_text.specs.declared.commands.answers.Refusal.{Refusal}
use Rattle.tcl_text.specs.declared.commands.answers.Refusal.TheVariants.{Error, NoMemory}
use Rattle.tcl_vars.specs.Store.{Store, with_variable}
use Rattle.tcl_text.specs.declared.fault.SetFault.{SetFault}
use Rattle.tcl_commands.specs.Done.{Done, keeps}
use Rattle.tcl_commands.specs.Refusals.{Does}
use Rattle.tcl_commands.specs.Texts.{cannot_set}
use Rattle.tcl_commands.specs.Values.{value_set, changed_to}

-- a step that answers and leaves the variables
pub kept : (result : Result (List ℕ) Refusal) (store : Store) (answer : Answer) → Gives result answer → Does result store (keeps store answer)
kept (Ok text) store answer h = ap (keeps store) h
kept (Err (Error message)) store answer h = ap (keeps store) h
kept (Err NoMemory) store answer h = tt

-- a variable couldn't be set
pub not_set : (result : Result (List ℕ) Refusal) (name value : List ℕ) (store : Store) (fault : SetFault) (set : Result Store SetFault)
    → set ≡ Err fault → Gives result (cannot_set name fault) → Does result store (value_set name value store set)
not_set result name value store fault set e h = rw e (kept result store (cannot_set name fault) h)

-- what came of a variable's value couldn't be had
pub not_changed : (refusal : Refusal) (level : ℕ) (name : List ℕ) (store : Store) (value : Answer)
    → Gives {T = List ℕ} (Err refusal) value → Does (Err refusal) store (changed_to level name store value)
not_changed (Error message) level name store value h = rw h refl
not_changed NoMemory level name store value h = tt

-- a variable is set to what came of its value
pub set_changed : (result : Result (List ℕ) Refusal) (level : ℕ) (name text : List ℕ) (store new : Store) (value : Answer)
    → value ≡ Ok text → Does result new (value_set name text store (with_variable store level name text)) → Does result new (changed_to level name store value)
set_changed result level name text store new value e h = rw e h

pub ruleset changes = (not_changed, set_changed)
