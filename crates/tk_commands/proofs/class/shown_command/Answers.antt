use Rattle.tk_inputs.specs.Shared.{arrivals_of}
use Rattle.tk_commands.proofs.ClassTouch.{class_marked}
use Rattle.tk_commands.proofs.class.shown_command.Goals as goal

pub invariant_of-marked : goal.invariant_of-marked
invariant_of-marked c =
    class_marked c.args.slot c.number_for-number.result c.args.moment c.args.command.now c.args.words.now c.marked.inside.marks c.touch.new.self c.marked.inside.screen
    c.class_command_done.new.screen (arrivals_of c.args.slot c.args.inputs.now c.args.queue.now)
    (arrivals_of c.args.slot c.class_command_done.new.inputs c.class_command_done.new.queue) c.args.scopes.now c.class_command_done.new.scopes c.in-Ok.outcome c.marked.invariant c.touch.ensures.own
    c.touch.ensures.others c.in-Ok.ensures.screen c.number_for-number.ensures c.in-Ok.ensures.own
