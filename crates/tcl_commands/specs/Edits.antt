-- Steps. What commands answer that change a text in place.
use Rattle.std.specs.Prelude.{ℕ, List, Result, Ok, Err}
use Rattle.tcl_text.specs.Answers.{Answer, limit_text, fails}
use Rattle.tcl_text.specs.FaultTexts.{list_text, no_memory_text}
use Rattle.tcl_text.specs.Edit.{edited}
use Rattle.tcl_text.specs.declared.edit.Edit.{Edit}
use Rattle.tcl_text.specs.declared.fault.EditFault.{EditFault}
use Rattle.tcl_text.specs.declared.fault.EditFault.TheVariants as edits

-- a text as it is changed, or why it isn't
abbrev pub edit_told : Result (List ℕ) EditFault → Answer
edit_told (Ok text) = Ok text
edit_told (Err edits.TooLong) = Err limit_text
edit_told (Err (edits.BadList fault)) = fails (list_text fault)
edit_told (Err edits.NoMemory) = fails no_memory_text

abbrev pub edit_answer : Edit → List ℕ → Answer
edit_answer edit value = edit_told (edited edit value)
