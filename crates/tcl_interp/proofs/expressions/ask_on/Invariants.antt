use Rattle.std.proofs.Common.{◌≡◌, is_some}
use Rattle.tcl_expr.specs.Resuming.{is_waiting}
use Rattle.tcl_interp.specs.Finish.{Evaluates}
use Rattle.tcl_interp.specs.Moves.{moved, standing}
use Rattle.tcl_interp.specs.Quiet.{Leads}
use Rattle.tcl_interp.specs.Rests.{waits_of}
use Rattle.tcl_interp.proofs.Weights.{weight}
use Rattle.tcl_interp.proofs.expressions.ask_on.Given as goal

-- the moves so far led to the evaluation with its next answer
abbrev pub invariant-answers : goal.invariant-answers
invariant-answers g l = record {
  leads : Leads (standing (moved (Evaluates l.fn.room l.fn.answered.value.eval l.fn.answered.value.given) (waits_of l.fn.frames.items)) l.fn.scopes l.fn.context) (standing (moved (Evaluates l.room l.eval l.given) (waits_of l.frames.items)) l.scopes l.context);
  waiting : is_some l.given ≡ is_waiting l.eval.state;
}

abbrev pub decreases-answers : goal.decreases-answers
decreases-answers g l = weight (moved (Evaluates l.room l.eval l.given) (waits_of l.frames.items))
