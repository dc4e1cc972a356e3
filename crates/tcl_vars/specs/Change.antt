-- Meaning. What changing a text that is there does.
use Rattle.std.specs.Prelude.{◌≡◌, ℕ, List, Result, Ok, Err}
use Rattle.tcl_text.specs.Edit.{edited}
use Rattle.tcl_text.specs.declared.edit.Edit.{Edit}
use Rattle.tcl_text.specs.declared.fault.EditFault.{EditFault}
use Rattle.tcl_text.specs.declared.fault.EditFault.TheVariants as edits
use Rattle.tcl_text.specs.declared.fault.ReadFault.{ReadFault}
use Rattle.tcl_text.specs.declared.fault.ChangeFault.{ChangeFault}
use Rattle.tcl_text.specs.declared.fault.ChangeFault.TheVariants.{Unread, TooLong, BadList, NoMemory}
use Rattle.tcl_vars.specs.Store.{Store, variable_in, with_variable}

-- why a text isn't changed
abbrev pub change_fault : EditFault → ChangeFault
change_fault edits.TooLong = TooLong
change_fault (edits.BadList fault) = BadList fault
change_fault edits.NoMemory = NoMemory

abbrev pub told_by : Result (List ℕ) EditFault → Result (List ℕ) ChangeFault
told_by (Ok text) = Ok text
told_by (Err fault) = Err (change_fault fault)

-- what becomes of a text that is read
abbrev pub edited_by : Edit → Result (List ℕ) ReadFault → Result (List ℕ) ChangeFault
edited_by edit (Ok text) = told_by (edited edit text)
edited_by edit (Err fault) = Err (Unread fault)

-- the text of the variable or element that a name means is changed
pub record Changes (old : Store) (frame : ℕ) (name : List ℕ) (edit : Edit) (new : Store) : Type 0 where
  pub value : List ℕ
  pub changed : edited_by edit (variable_in old frame name) ≡ Ok value
  pub set : with_variable old frame name value ≡ Ok new
  pub read : variable_in new frame name ≡ Ok value
