-- Steps. What a move of the interpreter comes to, or several.
use Rattle.std.specs.Prelude.{◌≡◌, Bool, List}
use Rattle.tcl_vars.specs.Store.{Store}
use Rattle.tcl_control.specs.declared.context.Context.{Context}
use Rattle.tcl_interp.specs.declared.machine.Frame.{Frame}
use Rattle.tcl_interp.specs.declared.moves.Move.{Move}
use Rattle.tcl_interp.specs.declared.moves.Move.TheVariants.{On, Far, Due}
use Rattle.tcl_interp.specs.Moves.{Standing}
use Rattle.tcl_interp.specs.Quiet.{Moves, MovesOn, IsQuiet, Stops}
use Rattle.tcl_interp.specs.Rests.{moved_of, standing_of}

-- moves may stop before a command, or not
abbrev pub MoveGives : {K : Type 0} → Bool → Standing K → List (Frame K) → Store → Context → Move K → Type 0
MoveGives pauses before frames store context (On now) = IsQuiet before.moved × Moves before (standing_of now frames store context)
MoveGives pauses before frames store context (Far now) = MovesOn before (standing_of now frames store context)
MoveGives pauses before frames store context (Due now) = (standing_of now frames store context ≡ before) × Stops pauses (moved_of now frames)
