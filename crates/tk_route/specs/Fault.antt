-- Meaning. The numbers of the faults.
use Rattle.std.specs.Prelude.{ℕ, Option, Some, None}
use Rattle.tk_route.specs.declared.fault.HostFault.{HostFault}
use Rattle.tk_route.specs.declared.fault.HostFault.TheVariants.{Refused, NoMemory}
use Rattle.tk_route.specs.declared.fault.LineFault.{LineFault}
use Rattle.tk_route.specs.declared.fault.LineFault.TheVariants.{Overlap, TimeBack, BadLine, NoApp, TooManyApps, NameTaken, Started, Ended, Broken, RectOverlap}

abbrev pub number_of : LineFault → ℕ
number_of Overlap = 34
number_of TimeBack = 35
number_of BadLine = 36
number_of NoApp = 37
number_of TooManyApps = 38
number_of NameTaken = 39
number_of Started = 40
number_of Ended = 41
number_of Broken = 42
number_of RectOverlap = 43

-- want of memory has none
abbrev pub number_if_refused : HostFault → Option ℕ
number_if_refused (Refused fault) = Some (number_of fault)
number_if_refused NoMemory = None
