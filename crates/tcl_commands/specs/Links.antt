-- Meaning. The commands of global(n) and upvar(n), with the frame that is linked to given by its number.
use Rattle.std.specs.Prelude.{ℕ, ◌==◌, nat_eq, if◌then◌else◌, List, [], ◌∷◌, length, drop, is_none, Result, Ok, Err, codes, ◌%◌}
use Rattle.std.specs.List.{starts_with}
use Rattle.tcl_text.specs.Answers.{wrong_args}
use Rattle.tcl_vars.specs.Name.{element_of}
use Rattle.tcl_vars.specs.Store.{Store, with_link}
use Rattle.tcl_text.specs.declared.fault.LinkFault.{LinkFault}
use Rattle.tcl_text.specs.declared.fault.LinkFault.TheVariants.{BadName, Exists, Full, NoMemory}
use Rattle.tcl_commands.specs.Done.{Done, keeps, each_done, pairs}
use Rattle.tcl_commands.specs.Texts.{cannot_link}

-- a leading :: is dropped from a global variable's name
abbrev pub global_name : List ℕ → List ℕ
global_name name = if starts_with nat_eq name (codes "::") then drop 2 name else name

-- how a name is told that can't be linked: as it is used, but an element as it is written
abbrev pub name_told : List ℕ → List ℕ → LinkFault → List ℕ
name_told written global BadName = if is_none (element_of global) then global else written
name_told written global Exists = global
name_told written global Full = global
name_told written global NoMemory = global

abbrev pub global_told : List ℕ → Result Store LinkFault → Result Store (List ℕ)
global_told name (Ok new) = Ok new
global_told name (Err fault) = cannot_link (name_told name (global_name name) fault) fault

-- the name of a frame is linked to the global variable of that name
abbrev pub global_step : ℕ → List ℕ → Store → Result Store (List ℕ)
global_step frame name store = global_told name (with_link store frame (global_name name) 0 (global_name name))

abbrev pub link_globals : ℕ → List (List ℕ) → Store → Done
link_globals frame names store = each_done (global_step frame) names store

-- global name ?name ..?: in the global frame nothing is linked
abbrev pub global_words : ℕ → List (List ℕ) → Store → Done
global_words frame [] store = keeps store (wrong_args (codes "global name ?name ..?"))
global_words frame (name ∷ names) store = if frame == 0 then keeps store (Ok []) else link_globals frame (name ∷ names) store

abbrev pub link_told : List ℕ → Result Store LinkFault → Result Store (List ℕ)
link_told name (Ok new) = Ok new
link_told name (Err fault) = cannot_link name fault

-- the second name is linked to the first one in another frame
abbrev pub upvar_step : ℕ → ℕ → List ℕ × List ℕ → Store → Result Store (List ℕ)
upvar_step frame to_frame pair store = link_told pair.1 (with_link store frame pair.1 to_frame pair.0)

abbrev pub link_pairs : ℕ → ℕ → List (List ℕ) → Store → Done
link_pairs frame to_frame names store = each_done (upvar_step frame to_frame) (pairs names) store

-- how `upvar` is used
abbrev pub upvar_usage : List ℕ
upvar_usage = codes "upvar ?level? other mine ?other mine ..?"

abbrev pub upvar_words : ℕ → ℕ → List (List ℕ) → Store → Done
upvar_words frame to_frame [] store = keeps store (wrong_args upvar_usage)
upvar_words frame to_frame (other ∷ names) store =
    if length (other ∷ names) % 2 == 0 then link_pairs frame to_frame (other ∷ names) store
    else keeps store (wrong_args upvar_usage)
