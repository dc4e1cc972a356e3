-- Meaning. What words of these commands are, or the text of the error.
use Rattle.std.specs.Prelude.{◌≡◌, ℕ, List, ◌++◌, Result, Ok, Err, if◌then◌else◌, codes}
use Rattle.tcl_text.specs.Answers.{Answer, Gives, fails, quoted}
use Rattle.tcl_text.specs.declared.commands.answers.Refusal.{Refusal}
use Rattle.tk_dispatch.specs.Dispatch.{is_live}
use Rattle.tk_sequences.specs.declared.fault.SequenceFault.{SequenceFault}
use Rattle.tk_sequences.specs.FaultTexts as sequence_faults
use Rattle.tk_tree.specs.Own.{Tree}
use Rattle.tk_virtual.specs.declared.fault.VirtualFault.{VirtualFault}
use Rattle.tk_virtual.specs.FaultTexts as virtual_faults
use Rattle.tk_tree.specs.Path.{bad_path}

-- a binding tag that is a path must be a window's
abbrev pub tag_or_error : Tree → List ℕ → Result (List ℕ) (List ℕ)
tag_or_error windows tag = if is_live windows tag then Ok tag else bad_path tag

-- the refusal of a sequence has its text (29, 30)
abbrev pub or_sequence_fault : {T : Type 0} → Result T SequenceFault → Result T (List ℕ)
or_sequence_fault (Ok value) = Ok value
or_sequence_fault (Err fault) = fails (sequence_faults.fault_text fault)

-- the refusal of a virtual event has its text (29 to 33)
abbrev pub or_virtual_fault : {T : Type 0} → Result T VirtualFault → Result T (List ℕ)
or_virtual_fault (Ok value) = Ok value
or_virtual_fault (Err fault) = fails (virtual_faults.fault_text fault)
