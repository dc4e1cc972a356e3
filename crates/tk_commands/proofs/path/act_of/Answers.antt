use Rattle.tk_commands.proofs.PathTouch.{still_marked}
use Rattle.tk_commands.proofs.path.act_of.Goals as goal

pub invariant_of-marked : goal.invariant_of-marked
invariant_of-marked c =
    still_marked c.args.slot c.number_of-number.result c.args.path.now c.args.words.now c.marked.inside.marks c.touch.new.self c.marked.inside.screen c.path_command.new.screen c.args.scopes.now
    c.path_command.new.scopes c.in-Ok.act c.marked.invariant c.touch.ensures.own c.touch.ensures.others c.in-Ok.ensures.others c.number_of-number.ensures c.in-Ok.ensures.own
