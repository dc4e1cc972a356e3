use Rattle.std.proofs.Common.{◌∷◌, Some, sym}
use Rattle.tcl_interp.specs.declared.expressions.Reply.TheVariants.{Given, Script}
use Rattle.tcl_interp.specs.Finish.{Begins, Evaluates, ForValue}
use Rattle.tcl_interp.specs.Moves.{moved, standing}
use Rattle.tcl_interp.specs.Rests.{waits_of}
use Rattle.tcl_interp.proofs.Answering.{RepliesBy, begins_on, replies_by}
use Rattle.tcl_interp.proofs.Weights.{quiet_lighter, leads_on}
use Rattle.tcl_interp.proofs.expressions.ask_on.Given.{Over}
use Rattle.tcl_interp.proofs.expressions.ask_on.Goals as goal

-- the move that an answer makes
given_move : (g : Over) (c : goal.In-Given g) → RepliesBy c.args.scopes.now c.args.context.now c.args.room (waits_of c.answers.frames.items) c.answers.eval c.answers.given c.resume.new.self (Given c.in-Given.text)
given_move g c = replies_by c.args.scopes.now c.args.context.now c.args.room (waits_of c.answers.frames.items) c.answers.eval c.answers.given c.resume.new.self c.here-level.result c.in-Ok.ask (Given c.in-Given.text)
    c.here-level.ensures.value c.in-Ok.ensures.tells c.in-Ok.ensures.asks (rw c.in-Given.is at c.in_ok-text.ensures)

pub returns-in-Script : goal.returns-in-Script
returns-in-Script g c =
    let waits = waits_of c.answers.frames.items in
    let here = standing (moved (Evaluates c.args.room c.answers.eval c.answers.given) waits) c.args.scopes.now c.args.context.now in
    let move = replies_by c.args.scopes.now c.args.context.now c.args.room waits c.answers.eval c.answers.given c.resume.new.self c.here-level.result c.in-Ok.ask (Script c.in-Script.script)
    c.here-level.ensures.value c.in-Ok.ensures.tells c.in-Ok.ensures.asks (rw c.in-Script.is at c.in_ok-text.ensures) in
    begins_on c.begin_for.result c.begin_for.new.frames.items c.args.scopes.now c.args.context.now _ here (moved (Begins c.args.room c.in-Script.script) (ForValue c.args.room c.resume.new.self ∷ waits))
    c.answers.invariant.leads tt move.0 (rw c.of_script-script.ensures at rw c.in_ok-asking-in-Script.ensures.ok at c.begin_for.ensures)

pub answers-smaller : goal.answers-smaller
answers-smaller g c =
    let waits = waits_of c.answers.frames.items in
    quiet_lighter (standing (moved (Evaluates c.args.room c.answers.eval c.answers.given) waits) c.args.scopes.now c.args.context.now) (standing (moved (Evaluates c.args.room c.resume.new.self (Some c.in-Given.text)) waits) c.args.scopes.now c.args.context.now) tt (given_move g c).0

pub answers-preserved : goal.answers-preserved
answers-preserved g c =
    let waits = waits_of c.answers.frames.items in
    record {
      leads = leads_on _ (standing (moved (Evaluates c.args.room c.answers.eval c.answers.given) waits) c.args.scopes.now c.args.context.now) (standing (moved (Evaluates c.args.room c.resume.new.self (Some c.in-Given.text)) waits) c.args.scopes.now c.args.context.now) c.answers.invariant.leads (given_move g c).0;
      waiting = sym (given_move g c).1;
    }
