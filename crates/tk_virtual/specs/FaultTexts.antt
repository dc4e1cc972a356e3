-- Meaning. The texts and numbers of refusals.
use Rattle.std.specs.Prelude.{ℕ, List, ◌++◌, Option, Some, None, codes}
use Rattle.tcl_text.specs.Answers.{quoted}
use Rattle.tk_virtual.specs.declared.fault.VirtualFault.{VirtualFault}
use Rattle.tk_virtual.specs.declared.fault.VirtualFault.TheVariants.{BadName, BadSequence, BadKeysym, VirtualInVirtual, Full, NoMemory}

abbrev pub fault_number : VirtualFault → Option ℕ
fault_number (BadName name) = Some 33
fault_number (BadSequence text) = Some 29
fault_number (BadKeysym word) = Some 30
fault_number VirtualInVirtual = Some 32
fault_number Full = Some 31
fault_number NoMemory = None

unfoldable pub fault_text : VirtualFault → List ℕ
fault_text (BadName name) = codes "virtual event " ++ (quoted name ++ codes " is badly formed")
fault_text (BadSequence text) = codes "bad event sequence " ++ (quoted text ++ codes "")
fault_text (BadKeysym word) = codes "bad event type or keysym " ++ (quoted word ++ codes "")
fault_text VirtualInVirtual = codes "virtual event not allowed in definition of another virtual event"
fault_text Full = codes "limit reached: virtual"
-- (no definition makes this one: want of memory is no part of what is meant)
fault_text NoMemory = codes "out of memory"
