-- Meaning. The texts and numbers of refusals.
use Rattle.std.specs.Prelude.{ℕ, List, Option, Some, None, codes}
use Rattle.tk_patterns.specs.declared.fault.BindFault.{BindFault}
use Rattle.tk_patterns.specs.declared.fault.BindFault.TheVariants.{Full, NoMemory}

abbrev pub fault_number : BindFault → Option ℕ
fault_number Full = Some 31
fault_number NoMemory = None

abbrev pub fault_text : BindFault → List ℕ
fault_text Full = codes "limit reached: bindings"
-- (no definition makes this one: want of memory is no part of what is meant)
fault_text NoMemory = codes "out of memory"
