-- Meaning. The numbers of refusals.
use Rattle.std.specs.Prelude.{ℕ, Option, Some, None}
use Rattle.tk_tree.specs.declared.fault.WindowFault.{WindowFault}
use Rattle.tk_tree.specs.declared.fault.WindowFault.TheVariants.{BadPath, BadName, Dying, Exists, Full, NoMemory}

abbrev pub fault_number : WindowFault → Option ℕ
fault_number BadPath = Some 24
fault_number Exists = Some 25
fault_number BadName = Some 26
fault_number Dying = Some 27
fault_number Full = Some 28
fault_number NoMemory = None
