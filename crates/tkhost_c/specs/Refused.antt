-- Meaning. What a host's answer is for a program in C.
use Rattle.std.specs.Prelude.{Result, Ok, Err}
use Rattle.tk_route.specs.declared.fault.HostFault.{HostFault}
use Rattle.tk_route.specs.declared.fault.HostFault.TheVariants.{Refused, NoMemory as no_memory}
use Rattle.tkhost_c.specs.declared.refusal.Refusal.{Refusal}
use Rattle.tkhost_c.specs.declared.refusal.Refusal.TheVariants.{Fault, NoMemory}

abbrev pub refusal_of : HostFault → Refusal
refusal_of (Refused fault) = Fault fault
refusal_of no_memory = NoMemory

abbrev pub answered_as : Result (Unit {0}) HostFault → Result (Unit {0}) Refusal
answered_as (Ok done) = Ok done
answered_as (Err fault) = Err (refusal_of fault)
