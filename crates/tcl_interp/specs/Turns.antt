-- Steps. Where turns of a loop stop, and tests of which straight code knows whether they hold.
use Rattle.std.specs.Prelude.{ℕ, Bool, List, [], ◌∷◌}
use Rattle.tcl_vars.specs.Store.{Store}
use Rattle.tcl_control.specs.declared.code.Code.TheVariants.{Normal}
use Rattle.tcl_control.specs.declared.loops.Loop.{Loop}
use Rattle.tcl_control.specs.declared.loops.Test.{Test}
use Rattle.tcl_control.specs.declared.loops.Test.TheVariants.{Holds, Items}
use Rattle.tcl_interp.specs.declared.turns.Halt.{Halt}
use Rattle.tcl_interp.specs.declared.turns.Halt.TheVariants as halt
use Rattle.tcl_interp.specs.Finish.{Ends, ForBody, ForNext, Tests, Waiting}
use Rattle.tcl_interp.specs.Moves.{Moved, moved}
use Rattle.tcl_interp.specs.Openings.{Knows}
use Rattle.tcl_interp.specs.Whole.{stopped_in}

module _ {K : Type 0} where
  -- what is done, and what waits, where turns of a loop have stopped
  abbrev pub halted : ℕ → Loop → List (Waiting K) → Halt → Moved K
  halted room looping waits halt.Test = moved (Tests room looping) waits
  halted room looping waits halt.Over = moved (Ends Normal []) waits
  halted room looping waits (halt.Body stop) = stopped_in stop (ForBody room looping ∷ waits)
  halted room looping waits (halt.Next stop) = stopped_in stop (ForNext room looping ∷ waits)

-- a test is a condition that is an integer, by which it holds or doesn't
abbrev pub KnowsTest : Store → ℕ → Test → Bool → Type 0
KnowsTest store level (Holds condition) holds = Knows store level condition holds
KnowsTest store level (Items groups) holds = ⊥
