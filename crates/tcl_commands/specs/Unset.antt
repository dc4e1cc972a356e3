-- Meaning. The command of unset(n).
use Rattle.std.specs.Prelude.{ℕ, Bool, true, false, if◌then◌else◌, List, [], ◌∷◌, Result, Ok, Err, codes}
use Rattle.std.specs.Str.{bytes_eq}
use Rattle.tcl_vars.specs.Store.{Store, without_variable}
use Rattle.tcl_text.specs.declared.fault.UnsetFault.{UnsetFault}
use Rattle.tcl_commands.specs.Done.{Done, each_done}
use Rattle.tcl_commands.specs.Texts.{cannot_unset}

-- a variable is gone, or quietly stays, or why it can't be unset
abbrev pub unset_told : Bool → List ℕ → Store → Result Store UnsetFault → Result Store (List ℕ)
unset_told quiet name store (Ok new) = Ok new
unset_told true name store (Err fault) = Ok store
unset_told false name store (Err fault) = cannot_unset name fault

abbrev pub unset_step : Bool → ℕ → List ℕ → Store → Result Store (List ℕ)
unset_step quiet frame name store = unset_told quiet name store (without_variable store frame name)

abbrev pub unset_each : Bool → ℕ → List (List ℕ) → Store → Done
unset_each quiet frame names store = each_done (unset_step quiet frame) names store

-- unset ?-nocomplain? ?name ..?
abbrev pub unset_words : ℕ → List (List ℕ) → Store → Done
unset_words frame [] store = unset_each false frame [] store
unset_words frame (first ∷ others) store =
    if bytes_eq first (codes "-nocomplain") then unset_each true frame others store
    else unset_each false frame (first ∷ others) store
