-- Meaning. The texts and numbers of refusals.
use Rattle.std.specs.Prelude.{ℕ, List, ◌++◌, Option, Some, None, codes}
use Rattle.tcl_text.specs.Answers.{quoted}
use Rattle.tk_sequences.specs.declared.fault.SequenceFault.{SequenceFault}
use Rattle.tk_sequences.specs.declared.fault.SequenceFault.TheVariants.{BadSequence, BadKeysym, NoMemory}

abbrev pub fault_number : SequenceFault → Option ℕ
fault_number (BadSequence text) = Some 29
fault_number (BadKeysym word) = Some 30
fault_number NoMemory = None

unfoldable pub fault_text : SequenceFault → List ℕ
fault_text (BadSequence text) = codes "bad event sequence " ++ quoted text
fault_text (BadKeysym word) = codes "bad event type or keysym " ++ quoted word
fault_text NoMemory = codes "out of memory"
