-- Meaning. What a text becomes by a change.
use Rattle.std.specs.Prelude.{ℕ, nat_le, if◌then◌else◌, List, ◌++◌, length, Result, Ok, Err}
use Rattle.tcl_text.specs.Readings.{list_of, list_form}
use Rattle.tcl_text.specs.declared.fault.ListFault.{ListFault}
use Rattle.tcl_text.specs.declared.edit.Edit.{Edit}
use Rattle.tcl_text.specs.declared.edit.Edit.TheVariants.{Characters, Items}
use Rattle.tcl_text.specs.declared.fault.EditFault.{EditFault}
use Rattle.tcl_text.specs.declared.fault.EditFault.TheVariants.{TooLong, BadList}
use Rattle.tcl_text.specs.Limits.{most_bytes}

-- a value, where it isn't too long
unfoldable pub within_limit : List ℕ → Result (List ℕ) EditFault
within_limit text = if nat_le (length text) most_bytes then Ok text else Err TooLong

-- the items of a list with more behind them
abbrev pub with_more : List (List ℕ) → Result (List (List ℕ)) ListFault → Result (List (List ℕ)) EditFault
with_more more (Ok items) = Ok (items ++ more)
with_more more (Err fault) = Err (BadList fault)

abbrev pub written_anew : Result (List (List ℕ)) EditFault → Result (List ℕ) EditFault
written_anew (Ok items) = within_limit (list_form items)
written_anew (Err fault) = Err fault

unfoldable pub edited : Edit → List ℕ → Result (List ℕ) EditFault
edited (Characters characters) text = within_limit (text ++ characters.now)
edited (Items more) text = written_anew (with_more more.now (list_of text))
