-- Steps. Loops over lists whose bodies were read, and where turns of them stop.
use Rattle.std.specs.Prelude.{ℕ, ◌<◌, List, [], ◌∷◌, None, IsOk}
use Rattle.tcl_commands.specs.declared.groups.Group.{Group}
use Rattle.tcl_control.specs.declared.code.Code.TheVariants.{Normal, Error}
use Rattle.tcl_control.specs.declared.loops.Loop.{Loop}
use Rattle.tcl_control.specs.declared.loops.Test.TheVariants.{Items}
use Rattle.tcl_table.specs.Source.{script_of}
use Rattle.tcl_interp.specs.declared.items.ItemsHalt.{ItemsHalt}
use Rattle.tcl_interp.specs.declared.items.ItemsHalt.TheVariants as halt
use Rattle.tcl_interp.specs.declared.items.Over.{Over}
use Rattle.tcl_interp.specs.declared.items.Over.TheVariants as over
use Rattle.tcl_interp.specs.Finish.{Ends, ForBody, Tests, Waiting}
use Rattle.tcl_interp.specs.Moves.{Moved, moved}
use Rattle.tcl_interp.specs.Whole.{stopped_in}

-- a loop with this body over what is left of lists
abbrev pub looping_over : List ℕ → List Group → Loop
looping_over body groups = record { test = Items groups; body = body; next = None }

-- the loop that goes over this
abbrev pub looped : Over → Loop
looped (over.Lists groups body) = looping_over body groups
looped (over.Other looping) = looping

-- where it goes over lists, there is room for its body, which can be read
abbrev pub IsReadOver : ℕ → Over → Type 0
IsReadOver room (over.Lists groups body) = (0 < room) × IsOk (script_of body)
IsReadOver room (over.Other looping) = Unit {0}

module _ {K : Type 0} where
  -- what is done, and what waits, where turns of a loop over lists have stopped
  abbrev pub halted_over : ℕ → List ℕ → List (Waiting K) → ItemsHalt → Moved K
  halted_over room body waits (halt.Test groups) = moved (Tests room (looping_over body groups)) waits
  halted_over room body waits halt.Over = moved (Ends Normal []) waits
  halted_over room body waits (halt.Failed text) = moved (Ends Error text) waits
  halted_over room body waits (halt.Body groups stop) = stopped_in stop (ForBody room (looping_over body groups) ∷ waits)
